pub mod LastLanes
pub mod Added
