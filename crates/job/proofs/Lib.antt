-- The laws of the job, for the proofs of this crate and of the crates that link it.
--     TwoWay            reading and packing a job undo each other
--     Grids, Sizes      the grid, and its numbers that fit
--     Fields            a group field by field
--     Tests, Binds      tests as facts, readings taken apart
--     Numbered          a refusal has a number
--     Refusals          what the code answers where it may refuse
pub mod TwoWay
pub mod Grids
pub mod Sizes
pub mod Fields
pub mod Tests
pub mod Binds
pub mod Numbered
pub mod Refusals
