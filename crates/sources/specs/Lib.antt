pub mod Colours
pub mod Bodies
pub mod Rows
pub mod Bits
pub mod Tried
