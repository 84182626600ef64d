pub mod Utf8
pub mod Grammar
pub mod Answers
pub mod Cases
