-- Routing a job, as the code does it.
--     Plans       the bits of its plan
--     Structs     what routing some records comes to
pub mod Plans
pub mod Structs
