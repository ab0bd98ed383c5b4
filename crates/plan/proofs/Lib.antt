-- The laws of plans.
--     TwoWay      reading accepts exactly the legal plans
--     Moves       reading the moves of a join
--     JoinRead    reading a join after its flag
--     Entries     the entries of a net: their bits, and what stands after a join
--     NetRead     reading the records of a net
--     NetsRead    reading the records of all nets
--     Unjoined    how many pins are unjoined
--     Records     every record that routing writes is cheapest
--     Routed      the plan that routing makes of a good job is legal, read as what routing gives, cheapest,
--                 and holds the joins that the ties name
--     Ties        a plan of the joins that the ties name is routing's
--     Numbered    a refusal of a plan has a number
--     Sizes       a plan has at most so many bytes
--     OnePin      nets of one pin: no record, fully joined
pub mod TwoWay
pub mod Moves
pub mod JoinRead
pub mod Entries
pub mod NetRead
pub mod NetsRead
pub mod Unjoined
pub mod Records
pub mod Routed
pub mod Numbered
pub mod Sizes
pub mod Ties
pub mod OnePin
