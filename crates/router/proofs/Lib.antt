-- What the proofs of the public calls lean on.
--     Holding         what is held of a job that was read
--     Sizes           what sizing answers
--     Replays         what replay answers
--     Reports         what the wire report answers
--     Ends            routing's outcome, by the ways in which it ends
--     Routes          what the code of routing asks and leaves
-- Theorems about the outcomes:
--     Numbered        the numbers that calls answer, 7 not among them
--     Promises        its plan is in the slice, cheapest, by the ties, and replays
--     Accepting       what replay accepts
--     Adds            what the wire report adds, and what it costs
--     MarkedRoutes    the marked routes
mod Holding
mod Sizes
mod Replays
mod Reports
mod Ends
mod Routes
pub mod Numbered
pub mod Promises
pub mod Accepting
pub mod Adds
pub mod MarkedRoutes
