pub mod RunLemmas
pub mod LineLemmas
pub mod FoundLemmas
pub mod WorkedKept
