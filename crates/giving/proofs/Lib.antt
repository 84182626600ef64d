pub mod Values
pub mod Contracts
