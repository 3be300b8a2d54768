pub mod Verdict
pub mod Words
pub mod Read
pub mod Begin
pub mod Turn
pub mod Sections
pub mod Strict
