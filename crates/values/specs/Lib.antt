pub mod Fold
pub mod Tri
pub mod Span
pub mod Laws
pub mod Shuffle
