pub mod Order
pub mod Board
pub mod Legal
pub mod Atlas
