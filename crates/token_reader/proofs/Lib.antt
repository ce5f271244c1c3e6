pub mod Effort
pub mod Tokens
pub mod Leading
pub mod Steps
pub mod Parts
pub mod Utf8
