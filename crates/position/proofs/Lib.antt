pub mod Elements
pub mod Placed
pub mod Ends
pub mod Barred
pub mod LawfulTests
pub mod Empty
