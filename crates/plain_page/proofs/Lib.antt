pub mod TitlesKept
pub mod WaitingLemmas
