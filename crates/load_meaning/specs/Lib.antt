pub mod Polls
pub mod Arrivals
