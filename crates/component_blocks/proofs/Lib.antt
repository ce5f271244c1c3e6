pub mod Around
pub mod Whole
pub mod Agrees
