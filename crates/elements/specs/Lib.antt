pub mod Element
pub mod Kinds
pub mod Steps
pub mod Walk
pub mod Reading
pub mod Document
pub mod Answers
