pub mod Lines
pub mod Written
pub mod Values
pub mod Puts
