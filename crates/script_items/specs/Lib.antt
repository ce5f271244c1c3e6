pub mod Script
pub mod Members
pub mod KeptFor
