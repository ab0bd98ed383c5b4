pub mod Codes
pub mod Jobs
