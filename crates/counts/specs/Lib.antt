pub mod Counts
pub mod Places
pub mod Reports
pub mod Structs
