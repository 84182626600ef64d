pub mod Calendar
pub mod Times
pub mod Borders
