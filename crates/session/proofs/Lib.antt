pub mod Due
pub mod Telling
pub mod Begun
pub mod Running
