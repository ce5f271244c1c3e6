pub mod Still
pub mod Settling
pub mod Stands
pub mod Finishing
pub mod Answers
pub mod Worked
