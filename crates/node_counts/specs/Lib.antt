pub mod Nodes
pub mod Own
