-- The laws of reading a whole job.
-- For the crates above:
--     Outcome     what a caller of `read_job` knows
--     Loaded      what a caller of `load_net` knows
-- For the functions here:
--     Heads, Lines, WholeTurns, AfterHead     the head, the layer lines, the groups after them, the whole
--     LoadTurns                               loading a net
pub mod Outcome
pub mod Loaded
mod Heads
pub mod Lines
mod WholeTurns
mod AfterHead
mod LoadTurns
