pub mod Stays
pub mod Handed
pub mod Contracts
