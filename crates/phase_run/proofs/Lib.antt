pub mod ToldAnswers
pub mod Made
