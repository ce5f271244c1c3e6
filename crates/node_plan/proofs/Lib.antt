pub mod OwnersLemmas
pub mod RowsLemmas
pub mod StoreFits
pub mod TitlesKept
