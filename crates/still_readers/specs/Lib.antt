pub mod Readers
pub mod Building
pub mod Marking
