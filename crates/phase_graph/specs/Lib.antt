pub mod Graph
pub mod Way
pub mod Table
pub mod Pumping
pub mod Relaying
