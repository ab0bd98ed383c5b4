pub mod Structs
pub mod Loading
