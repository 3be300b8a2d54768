pub mod Edges
pub mod Deciding
pub mod Turns
