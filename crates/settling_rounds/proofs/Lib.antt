pub mod Settlings
pub mod Rounds
