pub mod RegionSet
pub mod Links
