pub mod Kept
pub mod Words
pub mod RetreatLaw
pub mod OwnerLaw
pub mod WinterLaw
pub mod BarredLaw
pub mod Counts
pub mod MoveLaw
