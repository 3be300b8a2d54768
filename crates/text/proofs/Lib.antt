pub mod Chains
pub mod Steps
pub mod Places
pub mod Reading
pub mod Blocks
