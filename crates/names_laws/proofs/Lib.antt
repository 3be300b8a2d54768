pub mod Found
pub mod Gives
pub mod Good
