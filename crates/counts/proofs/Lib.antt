-- The laws of counts.
--     Adding       a report with counts added
--     Counting     counting a move
--     Turns        moves with one more at the end
--     Reporting    adding a plan's counts to a report
--     Worth        what counts cost
--     MoveWorth    those of a legal move cost what it does
--     PlanWorth    those of a plan cost what it does
pub mod Adding
pub mod Counting
pub mod Turns
pub mod Reporting
pub mod Worth
pub mod MoveWorth
pub mod PlanWorth
