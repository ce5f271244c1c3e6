pub mod Why
pub mod Ids
pub mod Parts
pub mod Around
pub mod Own
pub mod Counts
pub mod Kept
pub mod Worked
