pub mod Following
pub mod Structs
