pub mod Layout
pub mod Reading
pub mod Legal
pub mod Claim
pub mod Leaving
pub mod Entries
pub mod Sizes
