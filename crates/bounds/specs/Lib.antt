pub mod Bounds
pub mod Fills
