pub mod OwnersOf
pub mod Rows
