pub mod AllSeen
pub mod ComponentRight
pub mod Closed
pub mod Ends
pub mod Runs
pub mod ScriptRight
pub mod Operands
