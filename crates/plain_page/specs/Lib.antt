pub mod Seen
pub mod Buffer
pub mod Waiting
