pub mod Layout
pub mod Book
pub mod Answers
