pub mod Spans
pub mod Dates
pub mod Told
pub mod Borders
pub mod Contracts
