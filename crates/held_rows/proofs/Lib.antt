pub mod Upto
pub mod RowWrites
pub mod Shown
pub mod AtStart
pub mod Given
pub mod Shows
