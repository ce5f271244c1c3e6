pub mod Whole
pub mod Numbered
