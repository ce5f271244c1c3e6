pub mod Clock
pub mod Shown
pub mod Frames
pub mod Moves
pub mod Since
pub mod Ends
pub mod Fresh
pub mod Works
