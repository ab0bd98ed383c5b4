-- The laws of the search from the tree.
--     Numbers      places by number and back
--     Lawful       the laws of cheapest walks hold
--     Laying       the layout of the work slice
--     Listing      the place removed from the heap goes to the list
--     Putting      a lead put on a settled place
--     Costing      the cost that an entry tells, and what is left at least
--     Bits         bytes with a bit for each move
--     Asking       what the code asks of a place and of a move
--     Vias         what it asks for a via from a settled place
--     Spreading    what the entries have come to, move by move
--     Easing       entries lowered to a key or a cost
--     Relaxing     a move to another place
--     Finding      a move into a goal, and what the search has found
--     Reaching     one move, in the code's words
--     Turning      the moves of a place, in the code's words
--     Seeding      the tree put into the heap
--     Settling     places settled one after the other
--     Leading      moves of cheapest joins, in the code's words
--     Leads        leads and moves, by the entries
--     Lighting     the moves that enter a vertex get their bits
--     Answering    one settled place asked for a lead, in the code's words
--     Retracing    leads on the places of cheapest joins
--     Clearing     what a search has touched, made zero
pub mod Numbers
pub mod Lawful
pub mod Laying
pub mod Listing
pub mod Putting
pub mod Costing
pub mod Bits
pub mod Asking
pub mod Vias
pub mod Spreading
pub mod Easing
pub mod Relaxing
pub mod Finding
pub mod Reaching
pub mod Turning
pub mod Seeding
pub mod Settling
pub mod Leading
pub mod Leads
pub mod Lighting
pub mod Answering
pub mod Retracing
pub mod Clearing
