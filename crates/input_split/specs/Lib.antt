pub mod Separator
pub mod Parts
pub mod Computed
