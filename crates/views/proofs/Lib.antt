-- The laws behind the proofs of what a net sees.
--     Guides      the guide, box by box
--     Axes        vertices found inside the guide along an axis
--     Rows        the vertices of one row that are found inside the guide
--     Flags       the flags of a byte
--     Sights      bytes made in order of the vertices' numbers
--     Opening     the blocked flag taken off the net's own pins
--     Codes       another net's metal, told by the map's code
--     Pins        other nets' pins and obstacles, told by the occupants
--     Seen        the bytes make the view of the net at hand
--     Arrays      a net's boxes and pins, read back from the arrays that they are stored in
mod Guides
mod Axes
mod Rows
mod Flags
mod Sights
mod Opening
pub mod Codes
mod Pins
mod Seen
pub mod Arrays
