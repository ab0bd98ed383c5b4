-- The marked routes are right, and the edges are read as they say.
--     Costs        the least costs to go, as data
--     Checking     routing a job by tables of costs
--     Agreeing     where the tables pass their tests, that is routing
--     Evaluated    the rows and the edges, by evaluation
--     Marked       the theorem about the whole table
pub mod Costs
pub mod Checking
pub mod Agreeing
pub mod Evaluated
pub mod Marked
