pub mod Scripts
pub mod Bounds
pub mod Tests
pub mod Calls
pub mod Kept
pub mod Values
pub mod Contracts
