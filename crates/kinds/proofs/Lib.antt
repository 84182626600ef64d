pub mod Table
pub mod Forms
pub mod Unsigned
pub mod Signs
pub mod Values
pub mod Contracts
