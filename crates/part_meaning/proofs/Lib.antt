pub mod Utf8
pub mod Once
pub mod Computed
pub mod Either
