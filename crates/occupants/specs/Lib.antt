pub mod Structs
pub mod Occupants
