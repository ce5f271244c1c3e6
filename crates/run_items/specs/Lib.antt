pub mod Journal
pub mod Worked
