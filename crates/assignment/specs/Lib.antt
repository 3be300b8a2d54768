pub mod Assignment
pub mod Places
pub mod Lookup
