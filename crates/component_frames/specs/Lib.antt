pub mod Nest
pub mod Blocks
