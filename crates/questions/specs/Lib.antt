pub mod Questions
pub mod Asked
pub mod Answers
pub mod Places
