pub mod EvaluatedLemmas
pub mod SameValues
pub mod PlaceLemmas
