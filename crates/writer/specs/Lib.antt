pub mod Writer
pub mod Own
pub mod Answers
pub mod Cases
