pub mod Places
pub mod Small
pub mod Walked
