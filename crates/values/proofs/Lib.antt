pub mod TriTables
pub mod SpanMeaning
pub mod Shuffled
pub mod Chains
pub mod Backwards
