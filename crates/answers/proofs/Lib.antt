pub mod InOrder
pub mod Spoken
