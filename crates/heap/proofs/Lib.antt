-- The laws of the heap.
--     Words        its words, and stores to them
--     Orders       its order, told by the key at each seat
--     Swaps        two seats swap their items
--     Rows         of seats in a row the one with the least key
--     Sifting      the loops
--     Landing      an item put at a seat
--     Pigeons      a pigeonhole, and two rows of numbers joined
--     Lowering     an item put in, or its distance lowered
--     Leaving      the item at the front leaves
--     Removing     the item at the front removed, and the last put in its seat
--     Laws         what callers lean on
pub mod Words
pub mod Orders
pub mod Swaps
pub mod Rows
pub mod Sifting
pub mod Landing
pub mod Pigeons
pub mod Lowering
pub mod Leaving
pub mod Removing
pub mod Laws
