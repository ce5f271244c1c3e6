pub mod Bytes
pub mod Computed
pub mod Cursor
pub mod Lexing
pub mod Place
pub mod Token
pub mod Tokens
