pub mod Bytes
pub mod Puts
pub mod Counts
pub mod Prompt
pub mod Fallible
pub mod Asks
pub mod Memory
pub mod StdStreams
