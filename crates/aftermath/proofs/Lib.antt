pub mod Holding
pub mod Arriving
