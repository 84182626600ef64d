pub mod Stops
pub mod Contracts
