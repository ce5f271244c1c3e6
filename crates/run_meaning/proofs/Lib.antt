pub mod Areas
pub mod Around
pub mod Bounds
pub mod Dead
pub mod Fits
pub mod Targets
