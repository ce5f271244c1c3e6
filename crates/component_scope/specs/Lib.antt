pub mod Scope
pub mod Seen
