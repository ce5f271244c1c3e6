pub mod Today
pub mod Ran
