pub mod Ascii
pub mod Characters
pub mod Grammar
pub mod Computed
pub mod Contracts
