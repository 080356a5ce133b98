-- How the survey of some environments grows by others.
pub mod Steps
pub mod Growth
pub mod Listing
pub mod Quiet
pub mod Decided
pub mod Whole
