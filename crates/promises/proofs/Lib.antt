pub mod Documents
pub mod Run
pub mod Over
pub mod Beside
pub mod Store
pub mod Numbers
pub mod Given
