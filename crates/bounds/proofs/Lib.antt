-- The laws of the bound.
--     Coordinates     what a move changes, and the bound of the vertex that it enters
--     Axes            an axis, entry by entry, and the cheapest price
--     Boxes           the box of the unjoined pins, pin by pin
--     Boundings       the filled table is such a bound
pub mod Coordinates
pub mod Axes
pub mod Boxes
pub mod Boundings
