-- The laws of moves and prices.
--     Vertices       a vertex by its number
--     Neighbours     the vertex that a move enters
--     Techs          what a good job says of its layers
--     Places         codes of good places
--     Segments       the segment that a move makes, and its overhead
--     Prices         the price of entering
--     Moves          a legal move taken apart; what it keeps and costs
--     Lawful         places and moves satisfy what the laws of cheapest walks ask
--     Boxes          the box test, axis by axis
--     Own            a net does not see its own metal
--     Laid           what a move lays: clear vertices of the grid
--     Walks          what a route does when its moves are walked
--     Joins          the join that is computed is the cheapest, and the only one
--     Members        whether a vertex is in a list
--     Standing       the tree and the unjoined pins are apart in every standing
--     Entries        every record that routing writes is the join of what stands
--     Fitting        numbers of a vertex that fit a word, for the code
--     Held           what the code holds of a net's view, of layers and of prices
--     Lists          lists of numbers that are filled entry by entry, and the price list among them
--     PriceLists     what a list that holds a job's prices tells
--     Entering       a move's price and the place that it leads to, by the vertex that it enters
--     Stepping       what the code's steps mean
--     Rooms          walking a track by its stride
--     Firsts         a segment's first vertex
--     Runs           counting the clear vertices beyond a vertex
--     Ends           the two ends of a segment, and the clear vertices beyond them
--     Owed           what the code's overheads mean
--     Certificates   a table of costs as data, shown to be a table by a test
pub mod Vertices
pub mod Neighbours
pub mod Techs
pub mod Places
pub mod Overheads
pub mod Segments
pub mod Prices
pub mod Moves
pub mod Lawful
pub mod Boxes
pub mod Own
pub mod Laid
pub mod Walks
pub mod Joins
pub mod Members
pub mod Standing
pub mod Entries
pub mod Routes
pub mod Certificates
pub mod Fitting
pub mod Held
pub mod Lists
pub mod PriceLists
pub mod Rooms
pub mod Firsts
pub mod Runs
pub mod Ends
pub mod Owed
pub mod Entering
pub mod Stepping
