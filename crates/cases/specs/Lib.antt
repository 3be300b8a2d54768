pub mod Position
pub mod Moves
pub mod Water
pub mod Fitting
pub mod Retreats
pub mod Winter
pub mod Cases
