pub mod Sources
pub mod Next
