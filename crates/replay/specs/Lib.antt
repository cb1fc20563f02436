pub mod Held
pub mod Answers
