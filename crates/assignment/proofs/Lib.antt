pub mod Steps
pub mod Aimed
pub mod Tabled
pub mod Kept
pub mod Numbered
