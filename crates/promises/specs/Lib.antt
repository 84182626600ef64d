pub mod Specimen
pub mod Meaning
pub mod BySteps
pub mod Resume
pub mod Refusals
