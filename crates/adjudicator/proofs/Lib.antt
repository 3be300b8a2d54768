pub mod Bounds
pub mod Onward
pub mod Standing
