-- What the functions of this crate do to the slice that is lent for the line.
use Rattle.std.specs.Prelude.{ℕ, ◌≡◌, List, ◌++◌, length, drop}

-- a line is at the front of the slice, the rest is as found, and the answer is the line's length
pub record Written (before after : List ℕ) (count : ℕ) (line : List ℕ) : Type 0 where
  pub contents : after ≡ line ++ drop (length line) before
  pub count_is : count ≡ length line
