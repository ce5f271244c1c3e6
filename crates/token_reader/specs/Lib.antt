pub mod Rules
pub mod Effort
pub mod Reading
pub mod Refused
pub mod Pending
pub mod Words
pub mod Readable
