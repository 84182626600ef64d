pub mod Passed
pub mod Heads
pub mod Specimen
pub mod Contracts
