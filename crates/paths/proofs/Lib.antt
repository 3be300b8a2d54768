pub mod Flooding
pub mod Refilled
pub mod InStep
pub mod Inside
