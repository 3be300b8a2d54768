pub mod Counted
pub mod Aims
