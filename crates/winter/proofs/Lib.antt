pub mod Choosing
pub mod Wintertime
