pub mod Words
mod Stepping
pub mod Contracts
