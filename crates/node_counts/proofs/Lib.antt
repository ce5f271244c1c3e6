pub mod Caps
pub mod Split
