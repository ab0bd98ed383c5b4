-- The laws of the joins that a search tells.
--     Tracing      the route of a join, move by move
--     Followed     the move that is followed, in the code's words
--     Writing      turns of writing the route
--     Putting      fields put one after the other
--     Found        the join that the bytes tell is the cheapest join of what stands, and what a search found
--     Joining      a record written, in the code's words
--     Records      the next record, in the code's words
--     Pins         no join makes an unjoined pin
pub mod Tracing
pub mod Followed
pub mod Writing
pub mod Putting
pub mod Found
pub mod Joining
pub mod Records
pub mod Pins
