pub mod Right
pub mod Good
pub mod Whole
pub mod Numbers
pub mod Layouts
