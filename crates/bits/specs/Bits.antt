-- Bits and bytes, most significant bit first. A bit is the number 0 or 1, a byte a number below 256.
-- Specification: sections 1.7 and 4.1.
--     field_bits, number    the bits of a number in a field, and the number that bits write
--     bits_of, pack_bits    the bits of bytes; bits as bytes, zero bits filling the last byte
--     field, whole          the number in a field at a bit position; whether all its bits are there
--     group_bits            the bits of fields, one after the other
-- Not here: bits put into bytes (Puts), and the form in which the code answers (Cursors). The laws are in
-- proofs/Laws.antt.
use Rattle.std.specs.Prelude.{ℕ, zero, suc, ◌+◌, ◌*◌, ◌/◌, ◌%◌, ◌^◌, List, [], ◌∷◌, ◌++◌, Bool, length, take, drop, replicate, leb}

-- the lowest w bits of v, the highest of them first
unfoldable pub field_bits : (w v : ℕ) → List ℕ
field_bits zero v = []
field_bits (suc w) v = v / 2 ^ w % 2 ∷ field_bits w v

-- the number that bits write
unfoldable pub number : List ℕ → ℕ
number [] = 0
number (b ∷ bs) = b * 2 ^ length bs + number bs

-- fields one after the other, each a width and a number
unfoldable pub group_bits : List (ℕ × ℕ) → List ℕ
group_bits [] = []
group_bits (f ∷ fs) = field_bits f.0 f.1 ++ group_bits fs

-- the bits of bytes: eight for each
unfoldable pub bits_of : List ℕ → List ℕ
bits_of [] = []
bits_of (b ∷ bs) = field_bits 8 b ++ bits_of bs

-- n bytes of bits, with zero bits where the bits end
unfoldable pub pack_to : ℕ → List ℕ → List ℕ
pack_to zero bits = []
pack_to (suc n) bits = number (take 8 (bits ++ replicate 8 0)) ∷ pack_to n (drop 8 bits)

-- bits as bytes: "Zero bits fill the last byte"
unfoldable pub pack_bits : List ℕ → List ℕ
pack_bits bits = pack_to ((length bits + 7) / 8) bits

-- the number in the w bits at a position
unfoldable pub field : (bits : List ℕ) (at w : ℕ) → ℕ
field bits at w = number (take w (drop at bits))

-- whether w bits are there from a position on
unfoldable pub whole : (bits : List ℕ) (at w : ℕ) → Bool
whole bits at w = leb (at + w) (length bits)
