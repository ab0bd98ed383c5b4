pub mod Heaps
pub mod Sifts
