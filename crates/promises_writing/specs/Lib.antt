pub mod Promise
pub mod Numbers
pub mod Copies
