-- What the methods of the cursor ask and answer, over the definitions of Bits.
use Rattle.std.specs.Prelude.{ℕ, ◌+◌, ◌*◌, ◌^◌, ◌≤◌, ◌<◌, List, length}
use Rattle.bits.specs.Bits.{bits_of, field}
use Rattle.bits.specs.declared.FieldRead.{FieldRead}

-- a position and a width at which the cursor's arithmetic fits a word
pub record Fitting (at w : ℕ) : Type 0 where
  pub narrow : w ≤ 64
  pub below : at + w < 2 ^ 63

-- a field that is whole in the bytes
pub record Room (bytes : List ℕ) (at w : ℕ) : Type 0 where
  pub fitting : Fitting at w
  pub inside : at + w ≤ 8 * length bytes

-- a field that was read: its number, and the cursor past it
abbrev pub field_read : (bytes : List ℕ) (at w : ℕ) → FieldRead
field_read bytes at w = record { value = field (bits_of bytes) at w; next = record { at = at + w } }
