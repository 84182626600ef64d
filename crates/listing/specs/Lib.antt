pub mod Listing
pub mod Specimen
