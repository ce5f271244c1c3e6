pub mod Parts
pub mod Serials
pub mod Counted
pub mod Mounted
pub mod Worked
