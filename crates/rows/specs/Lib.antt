pub mod Row
pub mod Answers
