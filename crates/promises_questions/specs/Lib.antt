pub mod Cases
pub mod Answered
pub mod Numbers
pub mod ByRuns
