pub mod Posts
pub mod Told
pub mod Making
