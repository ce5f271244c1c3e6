pub mod Owners
pub mod Begins
pub mod LoadRows
pub mod Rest
pub mod Finishes
