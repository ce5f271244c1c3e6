pub mod Posted
pub mod Numbers
pub mod Folds
pub mod Told
pub mod Fits
