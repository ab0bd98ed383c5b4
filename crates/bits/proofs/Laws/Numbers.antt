-- Laws of bits and the numbers that they write.
--     below_append, below_take, below_drop, below_replicate, below_set, below_get_or
--         lists whose elements are below a bound
--     length-field_bits, field_bits_bits, field_bits_zero
--         how many bits a field has, that they are bits, the bits of zero
--     number-field_bits, field_bits-number
--         a number from its bits, and bits from their number
--     field_bits-mod, drop-field_bits, take-field_bits, field_bits_split, field_bits_join
--         parts of a number's bits
--     number_below, number_append, number_zero
--         the number that bits write
-- Not here: bytes, packing and fields at a position (Bytes); what putting does (Putting).
use Prim.Native.Nat.{ℕ, zero, suc, ◌+◌, ◌-◌, ◌*◌, ◌/◌, ◌%◌, ◌^◌, ◌≤◌, ◌<◌}
use mathlib.Core.Path.{◌≡◌, refl, sym, ap, ap₂, ◌∙◌}
use mathlib.Core.List.{List, [], ◌∷◌, ◌++◌}
use native.Mathlib.Nat.{sub-zero, zero-sub, suc-sub-suc, mod-one, mod-eq_of_lt, zero-div, le_of_suc-le-suc, not-suc-le-zero, sub-add_cancel, add-sub_cancel_left, le_refl}
use native.Mathlib.Numerals.{one-add}
use native.Mathlib.Omega.{arith}
use lib.ListN.{length, take, drop, get_or, set, replicate, length-append, take-append-drop}
use lib.Arith.{digits_lt}
use lib.Pow.{pow-add, shr-shr, high, low, mod-pow-add, mod-mod-pow}
use lib.Pow as Pow
use Rattle.bits.specs.Bits.{field_bits, number}
use Rattle.bits.specs.Puts.{AllBelow}

-- ---- lists whose elements are below a bound

-- two such lists, one after the other
pub below_append : (n : ℕ) (xs ys : List ℕ) → AllBelow n xs → AllBelow n ys → AllBelow n (xs ++ ys)
unfolding AllBelow
below_append n [] ys h k = k
below_append n (x ∷ xs) ys h k = (h.0, below_append n xs ys h.1 k)

-- the first k of such a list
pub below_take : (n k : ℕ) (bs : List ℕ) → AllBelow n bs → AllBelow n (take k bs)
unfolding AllBelow
below_take n zero bs h = tt
below_take n (suc k) [] h = tt
below_take n (suc k) (b ∷ bs) h = (h.0, below_take n k bs h.1)

-- what follows the first k
pub below_drop : (n k : ℕ) (bs : List ℕ) → AllBelow n bs → AllBelow n (drop k bs)
unfolding AllBelow
below_drop n zero bs h = h
below_drop n (suc k) [] h = tt
below_drop n (suc k) (b ∷ bs) h = below_drop n k bs h.1

-- zeros, below any bound but zero
pub below_replicate : (n k : ℕ) → 0 < n → AllBelow n (replicate k 0)
unfolding AllBelow
below_replicate n zero h = tt
below_replicate n (suc k) h = (h, below_replicate n k h)

-- a store of such a number
pub below_set : (n : ℕ) (s : List ℕ) (i y : ℕ) → AllBelow n s → y < n → AllBelow n (set s i y)
unfolding AllBelow
below_set n [] i y h k = tt
below_set n (x ∷ s) zero y h k = (k, h.1)
below_set n (x ∷ s) (suc i) y h k = (h.0, below_set n s i y h.1 k)

-- a load from such a list, or zero past its end
pub below_get_or : (n : ℕ) (s : List ℕ) (i : ℕ) → AllBelow n s → 0 < n → get_or s i 0 < n
unfolding AllBelow
below_get_or n [] i h k = k
below_get_or n (x ∷ s) zero h k = h.0
below_get_or n (x ∷ s) (suc i) h k = below_get_or n s i h.1 k

-- ---- the bits of a number

-- a field of w bits has w bits
pub length-field_bits : (w v : ℕ) → length (field_bits w v) ≡ w
unfolding field_bits
length-field_bits zero v = refl
length-field_bits (suc w) v = ap suc (length-field_bits w v)

-- they are bits
pub field_bits_bits : (w v : ℕ) → AllBelow 2 (field_bits w v)
unfolding field_bits AllBelow
field_bits_bits zero v = tt
field_bits_bits (suc w) v = (omega arith, field_bits_bits w v)

-- the bits of zero are zero
pub field_bits_zero : (w : ℕ) → field_bits w 0 ≡ replicate w 0
unfolding field_bits
field_bits_zero zero = refl
field_bits_zero (suc w) = ap₂ (λ (b : ℕ) (bs : List ℕ). b % 2 ∷ bs) (zero-div (2 ^ w)) (field_bits_zero w)

-- the number that a number's lowest w bits write
pub number-field_bits : (w v : ℕ) → number (field_bits w v) ≡ v % 2 ^ w
unfolding field_bits number
number-field_bits zero v = sym (mod-one v)
number-field_bits (suc w) v = rw (length-field_bits w v, number-field_bits w v, ← (one-add w)) (sym (mod-pow-add v 1 w))

-- the lowest w bits go by the lowest k digits, where k is not less
pub field_bits-mod : (k w v : ℕ) → w ≤ k → field_bits w (v % 2 ^ k) ≡ field_bits w v
unfolding field_bits
field_bits-mod k zero v h = refl
field_bits-mod k (suc w) v h = ap₂ {C = List ℕ} (λ b bs. b ∷ bs) bit (field_bits-mod k w v (omega arith))
  where
    bit : v % 2 ^ k / 2 ^ w % 2 ≡ v / 2 ^ w % 2
    bit =
        let e : k ≡ k - suc w + 1 + w = omega arith in
        ap (λ (j : ℕ). v % 2 ^ j / 2 ^ w % 2) e ∙ ap (λ (x : ℕ). x % 2) (Pow.field v (k - suc w + 1) w) ∙ mod-mod-pow (v / 2 ^ w) (k - suc w) 1

-- the bits after the first k
pub drop-field_bits : (k w v : ℕ) → drop k (field_bits w v) ≡ field_bits (w - k) v
unfolding field_bits
drop-field_bits zero w v = rw sub-zero
drop-field_bits (suc k) zero v = rw zero-sub
drop-field_bits (suc k) (suc w) v = rw suc-sub-suc (drop-field_bits k w v)

-- the first k bits
pub take-field_bits : (k w v : ℕ) → k ≤ w → take k (field_bits w v) ≡ field_bits k (v / 2 ^ (w - k))
unfolding field_bits
take-field_bits zero w v h = refl
take-field_bits (suc k) zero v h = absurd (not-suc-le-zero h)
take-field_bits (suc k) (suc w) v h = rw (suc-sub-suc, shr-shr, sub-add_cancel (le_of_suc-le-suc h), take-field_bits k w v (le_of_suc-le-suc h))

-- the first j bits, then the other k
pub field_bits_split : (j k v : ℕ) → field_bits (j + k) v ≡ field_bits j (v / 2 ^ k) ++ field_bits k v
field_bits_split j k v =
    sym (take-append-drop j (field_bits (j + k) v))
    ∙ rw (take-field_bits j (j + k) v (omega arith), drop-field_bits j (j + k) v, add-sub_cancel_left j k)

-- the bits of a number whose low part is written apart
pub field_bits_join : (j k h l : ℕ) → l < 2 ^ k → field_bits (j + k) (h * 2 ^ k + l) ≡ field_bits j h ++ field_bits k l
field_bits_join j k h l lt = rw (field_bits_split j k, high h k lt, ← (field_bits-mod k k (h * 2 ^ k + l) (le_refl k)), low h k lt)

-- ---- the number that bits write

-- the number that n bits write is below 2 ^ n
pub number_below : (bs : List ℕ) → AllBelow 2 bs → number bs < 2 ^ length bs
unfolding number AllBelow
number_below [] h = omega arith
number_below (b ∷ bs) h =
    let below : b * 2 ^ length bs + number bs < 2 ^ suc (length bs) = omega (arith, digits_lt h.0 (number_below bs h.1)) in
    below

-- bits, from the number that they write
pub field_bits-number : (bs : List ℕ) → AllBelow 2 bs → field_bits (length bs) (number bs) ≡ bs
unfolding field_bits number AllBelow
field_bits-number [] h = refl
field_bits-number (b ∷ bs) h =
    let n = length bs in
    let v = number bs in
    let below : v < 2 ^ n = number_below bs h.1 in
    let first : (b * 2 ^ n + v) / 2 ^ n % 2 ≡ b = rw (high b n below) (mod-eq_of_lt h.0) in
    let rest : field_bits n (b * 2 ^ n + v) ≡ bs =
    sym (field_bits-mod n n (b * 2 ^ n + v) (omega arith)) ∙ rw (low b n below) (field_bits-number bs h.1) in
    ap₂ {C = List ℕ} (λ x xs. x ∷ xs) first rest

-- the bits of one list after those of another
pub number_append : (xs ys : List ℕ) → number (xs ++ ys) ≡ number xs * 2 ^ length ys + number ys
unfolding number
number_append [] ys = omega arith
number_append (x ∷ xs) ys = rw (length-append xs ys, pow-add 2 (length xs) (length ys), number_append xs ys) (omega arith)

-- bits that write zero are zero
pub number_zero : (bs : List ℕ) → AllBelow 2 bs → number bs ≡ 0 → bs ≡ replicate (length bs) 0
number_zero bs h e = sym (field_bits-number bs h) ∙ ap (field_bits (length bs)) e ∙ field_bits_zero (length bs)
