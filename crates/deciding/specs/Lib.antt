pub mod Rounds
pub mod Outcome
pub mod Adjudicated
