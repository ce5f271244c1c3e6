pub mod AroundLemmas
pub mod IdsLemmas
pub mod FoldLemmas
pub mod Longer
pub mod WorkedKept
