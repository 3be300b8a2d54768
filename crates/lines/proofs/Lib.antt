pub mod Steps
pub mod FirstLine
