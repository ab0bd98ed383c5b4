-- The laws of the tree's bytes.
--     Turns     the pins of a net, one by one
--     Spots     what the bytes tell after pins and vertices are put
pub mod Turns
pub mod Spots
