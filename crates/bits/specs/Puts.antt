-- Bits put into bytes, and lists whose numbers are all small.
--     put_bits    bits put into bytes from a bit position on
--     AllBelow    every number of a list is below a bound: bits below 2, bytes below 256
use Rattle.std.specs.Prelude.{ℕ, suc, ◌+◌, ◌-◌, ◌*◌, ◌/◌, ◌%◌, ◌^◌, ◌<◌, List, [], ◌∷◌, get_or, set}

-- A byte in which the bits before a position stay, the bit at the position is b, and those after it are zero.
unfoldable pub put_in_byte : (byte position b : ℕ) → ℕ
put_in_byte byte position b = byte / 2 ^ (8 - position) * 2 ^ (8 - position) + b * 2 ^ (7 - position)

-- Bytes with one bit put at a position: the bits before it stay, the rest of its byte is zero, other bytes
-- stay. A bit past the last byte is put nowhere.
unfoldable pub put_bit : (bytes : List ℕ) (at b : ℕ) → List ℕ
put_bit bytes at b = set bytes (at / 8) (put_in_byte (get_or bytes (at / 8) 0) (at % 8) b)

-- bits put one after the other from a position on
unfoldable pub put_bits : (bytes : List ℕ) (at : ℕ) (bits : List ℕ) → List ℕ
put_bits bytes at [] = bytes
put_bits bytes at (b ∷ bs) = put_bits (put_bit bytes at b) (suc at) bs

-- every number is below the bound
unfoldable pub AllBelow : (bound : ℕ) → List ℕ → Type 0
AllBelow bound [] = Unit
AllBelow bound (x ∷ xs) = (x < bound) × AllBelow bound xs
