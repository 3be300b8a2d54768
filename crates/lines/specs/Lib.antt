pub mod Split
pub mod Numbers
pub mod Calls
pub mod Print
