pub mod Text
pub mod Pages
pub mod Values
