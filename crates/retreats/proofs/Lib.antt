pub mod Elements
pub mod Leaving
