pub mod Home
pub mod Seen
pub mod Plain
pub mod Eaches
pub mod Shows
