pub mod Holds
pub mod State
pub mod Built
pub mod Seen
pub mod Lending
pub mod Start
