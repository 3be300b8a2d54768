pub mod ByRegion
pub mod Stands
