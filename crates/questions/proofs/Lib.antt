pub mod Questions
pub mod After
pub mod Contracts
