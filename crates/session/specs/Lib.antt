pub mod Session
pub mod Tables
