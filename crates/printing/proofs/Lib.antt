pub mod Puts
pub mod Waits
pub mod Pages
pub mod Spelling
pub mod Signs
pub mod Digits
pub mod Contracts
