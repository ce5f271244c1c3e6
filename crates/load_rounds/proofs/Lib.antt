pub mod Chain
pub mod Rounds
pub mod Waits
