pub mod Flags
pub mod Scenes
pub mod Lines
