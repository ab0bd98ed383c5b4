-- What the code of this crate leans on, over plain numbers and lists.
--     whole_test
--         the test for enough bytes is the test for enough bits
--     one_shl, one_shl_pos                                             a power of two as a shift
--     byte_with, bits_joined, joined_below, in_byte, byte_with_byte
--         a part put together with what a byte keeps
--     field_byte, field_in_byte, field_join
--         a field in one byte, and a field in two parts
--     before, InByte, in_turn, read_room, read_turn
--         the loops over a field's bytes: the bits before a byte, those in it and how many; the room to read
--         them, and they are read
--     put_out, put_in_byte_lem
--         bits past the last byte, and bits in one byte
--     put_first, put_turn, put_last
--         the loop that puts: what it has, a turn, its end
-- Not here: the laws that callers use (Laws).
use Prim.Native.Nat.{ℕ, zero, suc, ◌+◌, ◌-◌, ◌*◌, ◌/◌, ◌%◌, ◌^◌, ◌≤◌, ◌<◌, min, max}
use mathlib.Core.Path.{◌≡◌, refl, sym, ap, ◌∙◌}
use mathlib.Core.List.{List, [], ◌∷◌, ◌++◌}
use native.Mathlib.Nat.{not-suc-le-zero, add-sub_cancel_left, pow-suc, div-one, sub_self, mod-eq_of_lt, mod-lt, one-mul, mul-le-mul_right, le_trans}
use native.Mathlib.Decide.{dec_le}
use native.Mathlib.Numerals.{one-add, add-one-le}
use native.Mathlib.Omega.{arith}
use lib.ListN.{length, take, drop, get_or, set, length-drop, length-set}
use lib.Dec.{leb}
use lib.Seq.{take-add, take-append-le, drop-append-le, drop-drop, length-take-le, set-set, set_out, get_or-set_same}
use lib.Arith.{digits_lt}
use lib.Pow.{shl_exact, shr-shr, shl_lt, pow_pos, pow-add, pow-lt, pow_mono, shr_lt, shl-shr, mod-pow-add}
use borrow.Author.Tests.{le-leb, lt-leb}
use Rattle.bits.specs.Bits.{field_bits, number, bits_of, field, whole}
use Rattle.bits.specs.Puts.{put_in_byte, put_bit, put_bits}
use Rattle.bits.proofs.Laws.{length-field_bits, drop-field_bits, take-field_bits, field_bits_split, number-field_bits, number_append, length-bits_of, bits_of_bits, byte_at, field_below, put_bits-append}

-- enough bytes are there where enough bits are
pub whole_test : (s : List ℕ) (at w : ℕ) → leb ((at + w + 7) / 8) (length s) ≡ whole (bits_of s) at w
unfolding whole
whole_test s at w = rw length-bits_of (by (dec_le (at + w) (8 * length s)))
  where
    by : Dec (at + w ≤ 8 * length s) → leb ((at + w + 7) / 8) (length s) ≡ leb (at + w) (8 * length s)
    by (yes h) = le-leb ((at + w + 7) / 8) (length s) (omega arith) ∙ sym (le-leb (at + w) (8 * length s) h)
    by (no h) = lt-leb ((at + w + 7) / 8) (length s) (omega arith) ∙ sym (lt-leb (at + w) (8 * length s) (omega arith))

-- ---- shifts in one byte

-- `1 << k` is a power of two
pub one_shl : (k : ℕ) → k < 64 → 1 * 2 ^ k % 2 ^ 64 ≡ 2 ^ k
one_shl k h = ap (λ (x : ℕ). x % 2 ^ 64) (one-mul (2 ^ k)) ∙ mod-eq_of_lt (pow-lt h)

-- which is no zero divisor
pub one_shl_pos : (k : ℕ) → k < 64 → 0 < 1 * 2 ^ k % 2 ^ 64
one_shl_pos k h = rw (one_shl k h) (pow_pos k)

-- a byte whose first p bits stay, then the lowest w bits of a number, then zero bits
abbrev pub byte_with : (byte p w v : ℕ) → ℕ
byte_with byte p w v = byte / 2 ^ (8 - p) * 2 ^ (8 - p) + v % 2 ^ w * 2 ^ (8 - p - w)

-- the first p bits of a byte are p bits
kept_below : (byte p : ℕ) → byte < 256 → p ≤ 8 → byte / 2 ^ (8 - p) < 2 ^ p
kept_below byte p h l =
    let eight : p + (8 - p) ≡ 8 = omega arith in
    shr_lt p (8 - p) (rw eight h)

-- with w bits after them, nothing is lost
pub bits_joined : (byte p w v : ℕ) → byte < 256 → p + w ≤ 8 → byte / 2 ^ (8 - p) * 2 ^ w % 2 ^ 64 + v % (1 * 2 ^ w % 2 ^ 64) ≡ byte / 2 ^ (8 - p) * 2 ^ w + v % 2 ^ w
bits_joined byte p w v h l = rw (one_shl w (omega arith), shl_exact p w 64 (kept_below byte p h (omega arith)) (omega arith))

-- they are p + w bits
pub joined_below : (byte p w v : ℕ) → byte < 256 → p + w ≤ 8 → byte / 2 ^ (8 - p) * 2 ^ w + v % 2 ^ w < 2 ^ (p + w)
joined_below byte p w v h l = rw pow-add (digits_lt (kept_below byte p h (omega arith)) (mod-lt v (pow_pos w)))

-- digits moved r positions on, part by part
shifted : (k m w r q : ℕ) → q ≡ w + r → (k * 2 ^ w + m) * 2 ^ r ≡ k * 2 ^ q + m * 2 ^ r
shifted k m w r q e = rw (e, pow-add 2 w r) (omega arith)

-- moved to their position, they are the byte with a part
pub in_byte : (byte p w v : ℕ) → byte < 256 → p + w ≤ 8
    → (byte / 2 ^ (8 - p) * 2 ^ w % 2 ^ 64 + v % (1 * 2 ^ w % 2 ^ 64)) * 2 ^ (8 - p - w) % 2 ^ 64 ≡ byte_with byte p w v
in_byte byte p w v h l =
    rw (bits_joined byte p w v h l) (shl_exact (p + w) (8 - p - w) 64 (joined_below byte p w v h l) (omega arith) ∙ shifted _ _ w (8 - p - w) (8 - p) (omega arith))

-- which is a byte
pub byte_with_byte : (byte p w v : ℕ) → byte < 256 → p + w ≤ 8 → byte_with byte p w v < 256
byte_with_byte byte p w v h l =
    let eight : p + w + (8 - p - w) ≡ 8 = omega arith in
    rw (shifted _ _ w (8 - p - w) (8 - p) (omega arith), eight) at (shl_lt (p + w) (8 - p - w) (joined_below byte p w v h l))

-- a field in one byte is a shift and a remainder
pub field_byte : (byte skip count : ℕ) → skip + count ≤ 8 → field (field_bits 8 byte) skip count ≡ byte / 2 ^ (8 - skip - count) % 2 ^ count
unfolding field
field_byte byte skip count h =
    rw (drop-field_bits skip 8 byte, take-field_bits count (8 - skip) byte (omega arith), number-field_bits count)

-- ---- reading

-- a field at a position, where it lies in one byte
pub field_in_byte : (s : List ℕ) (at k : ℕ) → at / 8 < length s → at % 8 + k ≤ 8 → field (bits_of s) at k ≡ field (field_bits 8 (get_or s (at / 8) 0)) (at % 8) k
unfolding field
field_in_byte s at k h l =
    let i = at / 8 in
    let p = at % 8 in
    let bits = field_bits 8 (get_or s i 0) in
    let rest = drop (8 * suc i) (bits_of s) in
    let position : 8 * i + p ≡ at = omega arith in
    let eight : length bits ≡ 8 = length-field_bits 8 (get_or s i 0) in
    let here : drop at (bits_of s) ≡ drop p bits ++ rest =
    ap (λ (n : ℕ). drop n (bits_of s)) (sym position) ∙ sym (drop-drop p (8 * i) (bits_of s)) ∙ ap (drop p) (byte_at s i h) ∙ drop-append-le p bits rest (omega arith) in
    ap (λ (r : List ℕ). number (take k r)) here ∙ ap number (take-append-le k (drop p bits) rest (rw length-drop (omega arith)))

-- a field in two parts
pub field_join : (B : List ℕ) (at w k : ℕ) → at + w + k ≤ length B → field B at (w + k) ≡ field B at w * 2 ^ k + field B (at + w) k
unfolding field
field_join B at w k h =
    let rest : length (take k (drop (at + w) B)) ≡ k = length-take-le k (drop (at + w) B) (rw length-drop (omega arith)) in
    rw (take-add w k (drop at B), drop-drop w at B, number_append (take w (drop at B)) (take k (drop (at + w) B)), rest)

-- how many bits of a field stand before byte i
abbrev pub before : (at width i : ℕ) → ℕ
before at width i = min width (8 * i - at)

-- the loops over the bytes of a field, in a turn: its bits in byte i stand from `from` up to `to`
pub record InByte (at width i from to : ℕ) : Type 0 where
  pub from_is : from ≡ max at (8 * i)
  pub to_is : to ≡ min (at + width) (8 * i + 8)
  pub first : at / 8 ≤ i
  pub last : i < (at + width + 7) / 8

-- so many, by those that are left and those that are skipped in the byte
pub in_turn : {at width i left skip count : ℕ} → left ≡ width - before at width i → skip ≡ max at (8 * i) % 8 → count ≡ min left (8 - skip)
    → InByte at width i (max at (8 * i)) (min (at + width) (8 * i + 8)) → count ≡ min (at + width) (8 * i + 8) - max at (8 * i)
in_turn l s c p = omega (arith, l, s, c, p.first, p.last)

module _ (s : List ℕ) {at width value i from to : ℕ} (p : InByte at width i from to) (e : value ≡ field (bits_of s) at (before at width i)) where
  -- there is room for them
  pub read_room : width ≤ 64 → (value + 1) * 2 ^ (to - from) ≤ 2 ^ 64
  read_room h =
      let d = before at width i in
      let k = to - from in
      let below : value < 2 ^ d = rw e (field_below (bits_of s) at d (bits_of_bits s)) in
      let narrow : d + k ≤ 64 = omega (arith, p.from_is, p.to_is, p.first, p.last) in
      le_trans (mul-le-mul_right (2 ^ k) (add-one-le below)) (rw (← (pow-add 2 d k)) (pow_mono {i = d + k} {j = 64} narrow))

  -- they are read
  pub read_turn : at + width ≤ 8 * length s → value * 2 ^ (to - from) + field (field_bits 8 (get_or s i 0)) (from % 8) (to - from) ≡ field (bits_of s) at (before at width (i + 1))
  read_turn h =
      let d = before at width i in
      let k = to - from in
      let more : before at width (i + 1) ≡ d + k = omega (arith, p.from_is, p.to_is, p.first, p.last) in
      let here : at + d ≡ from = omega (arith, p.from_is, p.first, p.last) in
      let byte : from / 8 ≡ i = omega (arith, p.from_is, p.first) in
      let inside : from / 8 < length s = omega (arith, byte, p.last) in
      let joined = field_join (bits_of s) at d k (rw length-bits_of (omega (arith, p.from_is, p.to_is, p.first, p.last))) in
      rw (more, joined, here, ← e, field_in_byte s from k inside (omega (arith, p.from_is, p.to_is)), byte)

-- ---- putting

-- bits past the last byte are put nowhere
pub put_out : (s : List ℕ) (at : ℕ) (bs : List ℕ) → length s ≤ at / 8 → put_bits s at bs ≡ s
unfolding put_bits put_bit
put_out s at [] h = refl
put_out s at (b ∷ bs) h =
    let same : put_bit s at b ≡ s = set_out s (at / 8) _ h in
    put_out (put_bit s at b) (suc at) bs (rw same (omega arith)) ∙ same

-- digits h and a bit b, kept where m is added below them, are digits with b and m added in one
join_digits : (h b m w r : ℕ) → let q = suc w + r in
    (h * 2 ^ suc q + b * 2 ^ q) / 2 ^ q * 2 ^ q + m * 2 ^ r ≡ h * 2 ^ suc q + (b * 2 ^ suc w + m) * 2 ^ r
join_digits h b m w r =
    let q = suc w + r in
    let sum : h * 2 ^ suc q + b * 2 ^ q ≡ (h * 2 + b) * 2 ^ q = rw pow-suc (omega arith) in
    rw (sum, shl-shr (h * 2 + b) q, pow-suc 2 q, pow-add 2 (suc w) r) (omega arith)

-- a bit put into a byte
put_one : (byte p v : ℕ) → put_in_byte byte p (v / 1 % 2) ≡ byte_with byte p 1 v
unfolding put_in_byte
put_one byte p v =
    let e : 8 - p - 1 ≡ 7 - p = omega arith in
    rw (div-one, e)

-- a bit put into a byte, and then a part after it, are one part
put_join : (byte p w v : ℕ) → p + suc (suc w) ≤ 8 → byte_with (put_in_byte byte p (v / 2 ^ suc w % 2)) (suc p) (suc w) v ≡ byte_with byte p (suc (suc w)) v
unfolding put_in_byte
put_join byte p w v h =
    let r = 6 - p - w in
    let e₆ : 8 - p - suc (suc w) ≡ r = omega arith in
    let e₇ : 7 - p ≡ suc w + r = omega arith in
    let e₇' : 8 - suc p ≡ suc w + r = omega arith in
    let e₈ : 8 - p ≡ suc (suc w + r) = omega arith in
    let digits : v % 2 ^ suc (suc w) ≡ v / 2 ^ suc w % 2 * 2 ^ suc w + v % 2 ^ suc w = rw one-add at (mod-pow-add v 1 (suc w)) in
    rw (e₆, e₇, e₇', e₈, add-sub_cancel_left (suc w) r, digits) (join_digits _ _ _ w r)

-- the lowest bits of a number, put into one byte: one bit, and w more
put_some : (w : ℕ) (s : List ℕ) (at v : ℕ) → at / 8 < length s → at % 8 + suc w ≤ 8
    → put_bits s at (field_bits (suc w) v) ≡ set s (at / 8) (byte_with (get_or s (at / 8) 0) (at % 8) (suc w) v)
unfolding put_bits put_bit field_bits
put_some zero s at v h l = ap (set s (at / 8)) (put_one (get_or s (at / 8) 0) (at % 8) v)
put_some (suc w) s at v h l =
    let i = at / 8 in
    let p = at % 8 in
    let b = v / 2 ^ suc w % 2 in
    let byte : suc at / 8 ≡ i = omega arith in
    let position : suc at % 8 ≡ suc p = omega arith in
    let rest = put_some w (put_bit s at b) (suc at) v (rw length-set (omega arith)) (omega arith) in
    rest ∙ rw (byte, position, get_or-set_same s i (put_in_byte (get_or s i 0) p b) 0 h, put_join (get_or s i 0) p w v l, set-set)

-- the same, of any number of bits but none
pub put_in_byte_lem : (s : List ℕ) (at w v : ℕ) → at / 8 < length s → 0 < w → at % 8 + w ≤ 8
    → put_bits s at (field_bits w v) ≡ set s (at / 8) (byte_with (get_or s (at / 8) 0) (at % 8) w v)
put_in_byte_lem s at zero v h hw l = absurd (not-suc-le-zero hw)
put_in_byte_lem s at (suc w) v h hw l = put_some w s at v h l

-- the first d bits of a field put
abbrev pub put_first : (buf : List ℕ) (at width value d : ℕ) → List ℕ
put_first buf at width value d = put_bits buf at (field_bits d (value / 2 ^ (width - d)))

-- a turn of the loop that puts: those in byte i are put
pub put_turn : (buf : List ℕ) {at width i from to : ℕ} (value : ℕ) → InByte at width i from to
    → put_bits (put_first buf at width value (before at width i)) from (field_bits (to - from) (value / 2 ^ (at + width - to))) ≡ put_first buf at width value (before at width (i + 1))
put_turn buf {at} {width} {i} {from} {to} value p =
    let d = before at width i in
    let k = to - from in
    let left = at + width - to in
    let more : before at width (i + 1) ≡ d + k = omega (arith, p.from_is, p.to_is, p.first, p.last) in
    let here : at + d ≡ from = omega (arith, p.from_is, p.first, p.last) in
    let rest : width - (d + k) ≡ left = omega (arith, p.from_is, p.to_is, p.first, p.last) in
    let high : width - d ≡ left + k = omega (arith, p.from_is, p.to_is, p.first, p.last) in
    let two = put_bits-append buf at (field_bits d (value / 2 ^ (left + k))) (field_bits k (value / 2 ^ left)) in
    rw (more, rest, high, field_bits_split d k (value / 2 ^ left), shr-shr value left k) (sym (rw (length-field_bits, here) at two))

-- where it ends: all are put
pub put_last : (buf : List ℕ) (at width value i : ℕ) → (at + width + 7) / 8 ≤ i → put_first buf at width value (before at width i) ≡ put_bits buf at (field_bits width value)
put_last buf at width value i h =
    let all : before at width i ≡ width = omega arith in
    rw (all, sub_self, div-one)
