-- The laws of the map's codes.
-- For the crates above:
--     Slices       past its need a slice is as found; its need is zero
--     Laid         a net laid on vertices
--     Metal        the code of the metal on a vertex, with more metal of a net
--     Coded        each vertex's code is that of the metal on it
--     Runs         the vertices beyond one, along its track
--     Finished     the map at the end, with the obstacles put in
--     Nets         the nets of a job that was read, as the code loads them
-- For the functions here:
--     Turns        turns of the loops that store into a slice
--     First        the metal at first, laid net by net
pub mod Slices
pub mod Laid
pub mod Metal
pub mod Coded
pub mod Runs
pub mod Finished
pub mod Nets
mod Turns
mod First
