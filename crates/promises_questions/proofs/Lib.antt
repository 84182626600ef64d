pub mod Computed
pub mod Answered
pub mod Alike
pub mod Demands
pub mod Asked
pub mod RunNumbers
pub mod Each
pub mod ByRuns
