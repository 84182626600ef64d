pub mod Kinds
pub mod Forms
pub mod Values
pub mod Answers
