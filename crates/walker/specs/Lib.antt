-- Walking a join's moves with what stands in arrays.
--     Entering     what a list of moves leaves
--     Standing     what the arrays stand for
--     Structs      the forms in which the code holds it
pub mod Entering
pub mod Standing
pub mod Structs
