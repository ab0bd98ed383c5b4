-- The laws of decimal digits (Decimals), of codes put into a slice (Putting), and what the code's loops lean
-- on (Turn).
pub mod Decimals
pub mod Putting
mod Turn
