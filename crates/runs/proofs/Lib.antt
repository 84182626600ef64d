pub mod Apart
pub mod Over
pub mod Runs
pub mod Contracts
