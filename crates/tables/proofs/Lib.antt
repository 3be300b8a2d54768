pub mod Folds
pub mod Regions
pub mod Placement
pub mod Stands
