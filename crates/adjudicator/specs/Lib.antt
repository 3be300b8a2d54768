pub mod Moved
pub mod Told
pub mod Settled
