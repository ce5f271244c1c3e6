pub mod Evaluated
pub mod Pairs
pub mod Seen
