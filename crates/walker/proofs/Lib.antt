-- The laws of walking a join's moves.
--     Sums         what moves did, with one move more at the end
--     Standing     what the arrays stand for while a join is walked
--     Landing      what is known of a move, and of the walk after it
--     Entering     a list of moves that walks
--     Metals       the metal of the nets to come
--     Nets         the net at hand among the nets of the job
--     Wholes       a whole job, before the first net and after the last
pub mod Sums
pub mod Standing
pub mod Landing
pub mod Entering
pub mod Metals
pub mod Nets
pub mod Wholes
