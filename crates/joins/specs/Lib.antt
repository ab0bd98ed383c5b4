-- The join that a search from the tree tells.
--     Traces     the best start, and the route from there
--     Led        the move that a lead tells
--     Joined     what a record leaves, as the code answers it
pub mod Traces
pub mod Led
pub mod Joined
