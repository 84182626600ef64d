pub mod Ends
pub mod Fields
pub mod Computed
pub mod Contracts
