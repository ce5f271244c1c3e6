pub mod Appends
pub mod Ids
pub mod Alike
pub mod OwnedForms
