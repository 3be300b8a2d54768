pub mod Strength
pub mod Decide
pub mod Counting
