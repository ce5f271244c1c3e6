pub mod Rows
pub mod Finishing
