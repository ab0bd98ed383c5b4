-- The laws of reading with occupants.
--     Covering             it comes to what reading says
--     Answers              answers beside occupants
--     Runs, CoverTurns     covering a run; reading obstacles, turn by turn
--     PinTurns, BoxTurns   reading the pins and the boxes of a net, turn by turn
--     NetTurns             reading nets, turn by turn
pub mod Covering
pub mod Answers
mod Runs
mod CoverTurns
mod PinTurns
mod BoxTurns
pub mod NetTurns
