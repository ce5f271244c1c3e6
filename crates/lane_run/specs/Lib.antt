pub mod Today
pub mod Lanes
