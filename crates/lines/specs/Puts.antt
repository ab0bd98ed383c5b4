-- What the functions of this crate do to the slice that is lent for the line, code by code.
use Rattle.std.specs.Prelude.{ℕ, ◌+◌, ◌≡◌, List, length}
use Rattle.std.proofs.lemmas.List.Edits.{sets}

-- codes are put from an index on, the others stay, and the answer is the index past them
pub record PutAt (before after : List ℕ) (at next : ℕ) (codes : List ℕ) : Type 0 where
  pub contents : after ≡ sets before at codes
  pub next_is : next ≡ at + length codes
