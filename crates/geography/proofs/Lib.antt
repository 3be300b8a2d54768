pub mod Bitwise
pub mod Edges
