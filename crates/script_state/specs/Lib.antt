pub mod Rules
pub mod Readable
