pub mod BodyLemmas
pub mod RowLemmas
pub mod BitLemmas
pub mod TriedLemmas
