pub mod Loads
pub mod Table
