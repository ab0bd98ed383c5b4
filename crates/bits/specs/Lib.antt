pub mod Bits
pub mod Cursors
pub mod Puts
