pub mod Words
pub mod Game
pub mod Reports
pub mod Refusal
pub mod Tables
