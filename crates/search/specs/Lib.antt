-- The search from the tree, as the code holds it in the work slice.
--     Fronts     what the entries tell: the cost to each place, the leads
--     Lists      how the slice is laid out: entries, heap, settled places
--     Bits       a byte with a bit for each move
--     Spreads    what the entries have come to while places are settled
--     Tries      one move that is tried from a settled place
--     Leads      the moves of cheapest joins, and the leads
--     Charts     the slice before a search, and after one that found an unjoined pin
pub mod Fronts
pub mod Lists
pub mod Bits
pub mod Spreads
pub mod Tries
pub mod Leads
pub mod Charts
