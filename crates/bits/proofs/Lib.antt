-- The laws of bits and bytes (Laws), for the proofs of this crate and of the crates that link it, and what
-- the code's own steps lean on (Turn).
pub mod Laws
mod Turn
