pub mod WordKinds
pub mod Walks
pub mod Unique
