pub mod Paths
pub mod Flood
pub mod Once
