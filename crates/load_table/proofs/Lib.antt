pub mod Keys
pub mod Lines
pub mod Pending
pub mod Puts
pub mod Found
pub mod Forms
