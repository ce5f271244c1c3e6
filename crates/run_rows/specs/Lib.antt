pub mod Parts
pub mod Rows
pub mod Wrong
pub mod Texts
pub mod States
pub mod Lanes
pub mod Whole
