pub mod Walking
pub mod Making
pub mod Lasting
pub mod Contracts
