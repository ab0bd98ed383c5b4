-- The laws of routing a job.
--     Joins       one join of the net at hand
--     Records     turns of routing a net's records
--     OneRecord   one record more: none, or a join
--     Netting     turns of routing net by net
--     Wholes      a whole job, routed
pub mod Joins
pub mod Records
pub mod OneRecord
pub mod Netting
pub mod Wholes
