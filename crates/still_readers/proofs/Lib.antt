pub mod Lists
pub mod ReadersLemmas
pub mod BuildingLemmas
pub mod MarkingLemmas
