pub mod Writes
pub mod Cells
pub mod Serials
pub mod Apart
pub mod Held
pub mod Computed
