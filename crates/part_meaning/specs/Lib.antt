pub mod Part
pub mod Computed
