pub mod Tables
pub mod Position
