pub mod Lanes
pub mod Worked
