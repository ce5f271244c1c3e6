pub mod Appends
pub mod Bounds
pub mod KeyedForms
pub mod LineForms
