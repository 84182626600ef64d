pub mod Over
pub mod Meets
pub mod Faults
pub mod Placed
pub mod Contracts
