pub mod Entry
pub mod Earlier
pub mod Times
pub mod Contracts
