pub mod Area
pub mod Cases
pub mod Explains
pub mod Laid
pub mod Phases
