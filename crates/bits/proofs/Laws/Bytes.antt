-- Laws of bytes: their bits, bits packed as bytes, and the numbers in fields at a position.
--     length-bits_of, bits_of_bits, bits_of-append, bits_of-take, bits_of-drop, byte_at     the bits of bytes
--     pack_bits_bytes, length-pack_bits, bits_of-pack_bits, bits_of_inj, pack_bits_only     bits as bytes, and back
--     field_below, field_split, field_here, field_past                                a field at a position
-- Not here: the bits of one number (Numbers); what putting does (Putting).
use Prim.Native.Nat.{ℕ, zero, suc, ◌+◌, ◌-◌, ◌*◌, ◌/◌, ◌^◌, ◌≤◌, ◌<◌}
use mathlib.Core.Path.{◌≡◌, refl, sym, ap, ap₂, ◌∙◌}
use mathlib.Core.List.{List, [], ◌∷◌, ◌++◌, append_assoc, append-nil}
use native.Mathlib.Nat.{lt_of_lt_of_le, min-le_left, mod-eq_of_lt, not-suc-le-zero, le_of_suc-le-suc, zero-sub, sub-zero, suc-sub-suc}
use native.Mathlib.Omega.{arith}
use lib.ListN.{length, take, drop, get_or, replicate, length-append, length-take, length-drop, length-replicate, take-append-drop, replicate-append-replicate}
use lib.Seq.{take-nil, drop-nil, take-append-add, drop-append-add, drop-cons, take_at, drop_at, drop-drop, length-take-le}
use lib.Pow.{pow_mono}
use Rattle.bits.specs.Bits.{field_bits, number, bits_of, pack_to, pack_bits, field}
use Rattle.bits.specs.Puts.{AllBelow}
use Rattle.bits.proofs.Laws.Numbers.{length-field_bits, field_bits_bits, number-field_bits, field_bits-number, number_below, below_append, below_take, below_drop, below_replicate}

-- ---- the bits of bytes

-- eight bits for each byte
pub length-bits_of : (s : List ℕ) → length (bits_of s) ≡ 8 * length s
unfolding bits_of
length-bits_of [] = refl
length-bits_of (b ∷ s) = length-append (field_bits 8 b) (bits_of s) ∙ omega (arith, length-field_bits 8 b, length-bits_of s)

-- they are bits
pub bits_of_bits : (s : List ℕ) → AllBelow 2 (bits_of s)
unfolding bits_of AllBelow
bits_of_bits [] = tt
bits_of_bits (b ∷ s) = below_append 2 (field_bits 8 b) (bits_of s) (field_bits_bits 8 b) (bits_of_bits s)

-- the bits of one list of bytes after those of another
pub bits_of-append : (s t : List ℕ) → bits_of (s ++ t) ≡ bits_of s ++ bits_of t
unfolding bits_of
bits_of-append [] t = refl
bits_of-append (b ∷ s) t = ap (λ (bs : List ℕ). field_bits 8 b ++ bs) (bits_of-append s t) ∙ sym (append_assoc (field_bits 8 b) (bits_of s) (bits_of t))

-- the bits of the bytes from the nth on
pub bits_of-drop : (n : ℕ) (s : List ℕ) → bits_of (drop n s) ≡ drop (8 * n) (bits_of s)
unfolding bits_of
bits_of-drop zero s = refl
bits_of-drop (suc n) [] = sym (drop-nil (8 * suc n))
bits_of-drop (suc n) (b ∷ s) =
    let next : 8 * suc n ≡ length (field_bits 8 b) + 8 * n = omega (arith, length-field_bits 8 b) in
    rw (next, drop-append-add (field_bits 8 b)) (bits_of-drop n s)

-- the bits of the first n bytes
pub bits_of-take : (n : ℕ) (s : List ℕ) → bits_of (take n s) ≡ take (8 * n) (bits_of s)
unfolding bits_of
bits_of-take zero s = refl
bits_of-take (suc n) [] = sym (take-nil (8 * suc n))
bits_of-take (suc n) (b ∷ s) =
    let next : 8 * suc n ≡ length (field_bits 8 b) + 8 * n = omega (arith, length-field_bits 8 b) in
    rw (next, take-append-add (field_bits 8 b), bits_of-take n s)

-- the bits from a byte on: its own, and those of the bytes after it
pub byte_at : (s : List ℕ) (i : ℕ) → i < length s → drop (8 * i) (bits_of s) ≡ field_bits 8 (get_or s i 0) ++ drop (8 * suc i) (bits_of s)
unfolding bits_of
byte_at s i h = sym (bits_of-drop i s) ∙ ap bits_of (drop-cons s i 0 h) ∙ ap (λ (r : List ℕ). field_bits 8 (get_or s i 0) ++ r) (bits_of-drop (suc i) s)

-- ---- bits as bytes, and back

-- a byte of bits: the first eight, with zero bits where they end
first : List ℕ → List ℕ
first bs = take 8 (bs ++ replicate 8 0)

-- it has eight
length_first : (bs : List ℕ) → length (first bs) ≡ 8
unfolding first
length_first bs = length-take-le 8 (bs ++ replicate 8 0) (omega (arith, length-append bs (replicate 8 0)))

-- and they are bits
first_bits : (bs : List ℕ) → AllBelow 2 bs → AllBelow 2 (first bs)
unfolding first
first_bits bs h = below_take 2 8 (bs ++ replicate 8 0) (below_append 2 bs (replicate 8 0) h (below_replicate 2 8 (omega arith)))

-- the first k of m zeros
take_zeros : (k m : ℕ) → k ≤ m → take k (replicate m 0) ≡ replicate {A = ℕ} k 0
take_zeros zero m h = refl
take_zeros (suc k) zero h = absurd (not-suc-le-zero h)
take_zeros (suc k) (suc m) h = ap {B = List ℕ} (λ r. 0 ∷ r) (take_zeros k m (le_of_suc-le-suc h))

-- the first k elements, filled up with zeros, and then the rest: all of them, filled up to k
fill : (k m : ℕ) (bs : List ℕ) → k ≤ m → take k (bs ++ replicate m 0) ++ drop k bs ≡ bs ++ replicate (k - length bs) 0
fill zero m bs h = rw (zero-sub, append-nil)
fill (suc k) m [] h = rw (sub-zero, append-nil) (take_zeros (suc k) m h)
fill (suc k) m (b ∷ bs) h = rw suc-sub-suc (ap {B = List ℕ} (λ r. b ∷ r) (fill k m bs (omega arith)))

-- n bytes of bits are n bytes
length-pack_to : (n : ℕ) (bs : List ℕ) → length (pack_to n bs) ≡ n
unfolding pack_to
length-pack_to zero bs = refl
length-pack_to (suc n) bs = ap suc (length-pack_to n (drop 8 bs))

-- and they are bytes
pack_to_bytes : (n : ℕ) (bs : List ℕ) → AllBelow 2 bs → AllBelow 256 (pack_to n bs)
unfolding pack_to first AllBelow
pack_to_bytes zero bs h = tt
pack_to_bytes (suc n) bs h =
    (rw length_first at (number_below (first bs) (first_bits bs h)), pack_to_bytes n (drop 8 bs) (below_drop 2 8 bs h))

-- a byte of bits, then the other bits and m zero bits
first_rest : (bs : List ℕ) (m : ℕ) → first bs ++ (drop 8 bs ++ replicate m 0) ≡ bs ++ replicate (8 - length bs + m) 0
unfolding first
first_rest bs m =
    sym (append_assoc (first bs) (drop 8 bs) (replicate m 0))
    ∙ rw (fill 8 8 bs (omega arith), append_assoc bs (replicate (8 - length bs) 0) (replicate m 0), replicate-append-replicate)

-- the bits of n bytes of bits: the bits, and zero bits up to the end
bits_of-pack_to : (n : ℕ) (bs : List ℕ) → AllBelow 2 bs → length bs ≤ 8 * n → bits_of (pack_to n bs) ≡ bs ++ replicate (8 * n - length bs) 0
unfolding pack_to bits_of first
bits_of-pack_to zero [] h l = refl
bits_of-pack_to zero (b ∷ bs) h l = absurd (not-suc-le-zero l)
bits_of-pack_to (suc n) bs h l =
    let eight : field_bits 8 (number (first bs)) ≡ first bs = rw length_first at (field_bits-number (first bs) (first_bits bs h)) in
    let rest = bits_of-pack_to n (drop 8 bs) (below_drop 2 8 bs h) (rw length-drop (omega arith)) in
    let size : 8 - length bs + (8 * n - length (drop 8 bs)) ≡ 8 * suc n - length bs = rw length-drop (omega arith) in
    rw (eight, rest, first_rest bs, size)

-- bytes, from their bits
pack_to-bits_of : (s : List ℕ) → AllBelow 256 s → pack_to (length s) (bits_of s) ≡ s
unfolding bits_of pack_to AllBelow
pack_to-bits_of [] h = refl
pack_to-bits_of (b ∷ s) h =
    rw (
      append_assoc (field_bits 8 b) (bits_of s) (replicate 8 0),
      take_at (field_bits 8 b) (bits_of s ++ replicate 8 0) 8 (length-field_bits 8 b),
      drop_at (field_bits 8 b) (bits_of s) 8 (length-field_bits 8 b),
      number-field_bits 8 b,
      mod-eq_of_lt h.0,
      pack_to-bits_of s h.1,
    )

-- bytes are known by their bits
pub bits_of_inj : (s t : List ℕ) → AllBelow 256 s → AllBelow 256 t → bits_of s ≡ bits_of t → s ≡ t
bits_of_inj s t h k e =
    let l : length s ≡ length t = omega (arith, ap length e, length-bits_of s, length-bits_of t) in
    sym (pack_to-bits_of s h) ∙ ap₂ pack_to l e ∙ pack_to-bits_of t k

-- packed bits are bytes
pub pack_bits_bytes : (bs : List ℕ) → AllBelow 2 bs → AllBelow 256 (pack_bits bs)
unfolding pack_bits
pack_bits_bytes bs h = pack_to_bytes ((length bs + 7) / 8) bs h

-- as many as the bits begin
pub length-pack_bits : (bs : List ℕ) → length (pack_bits bs) ≡ (length bs + 7) / 8
unfolding pack_bits
length-pack_bits bs = length-pack_to ((length bs + 7) / 8) bs

-- the bits of packed bits: the bits, and zero bits up to the end of the last byte
pub bits_of-pack_bits : (bs : List ℕ) → AllBelow 2 bs → bits_of (pack_bits bs) ≡ bs ++ replicate (8 * ((length bs + 7) / 8) - length bs) 0
unfolding pack_bits
bits_of-pack_bits bs h = bits_of-pack_to ((length bs + 7) / 8) bs h (omega arith)

-- bytes whose bits are these bits and then fewer than eight zero bits are the packed bits
pub pack_bits_only : (s bs : List ℕ) (k : ℕ) → AllBelow 256 s → AllBelow 2 bs → k < 8 → bits_of s ≡ bs ++ replicate k 0 → s ≡ pack_bits bs
pack_bits_only s bs k h hb l e =
    let n = (length bs + 7) / 8 in
    let size : 8 * length s ≡ length bs + k = sym (length-bits_of s) ∙ ap length e ∙ length-append bs (replicate k 0) ∙ rw length-replicate in
    let same : k ≡ 8 * n - length bs = omega arith in
    bits_of_inj s (pack_bits bs) h (pack_bits_bytes bs hb) (e ∙ ap (λ (x : ℕ). bs ++ replicate x 0) same ∙ sym (bits_of-pack_bits bs hb))

-- ---- fields at a position

-- a field of w bits is below 2 ^ w
pub field_below : (B : List ℕ) (at w : ℕ) → AllBelow 2 B → field B at w < 2 ^ w
unfolding field
field_below B at w h =
    let bs = take w (drop at B) in
    lt_of_lt_of_le
    (number_below bs (below_take 2 w (drop at B) (below_drop 2 at B h)))
    (pow_mono (rw length-take (min-le_left w (length (drop at B)))))

-- bits from a position on: those of the field there, then those past it
pub field_split : (B : List ℕ) (at w : ℕ) → AllBelow 2 B → at + w ≤ length B → drop at B ≡ field_bits w (field B at w) ++ drop (at + w) B
unfolding field
field_split B at w h l =
    let bs = take w (drop at B) in
    let whole : length bs ≡ w = length-take-le w (drop at B) (rw length-drop (omega arith)) in
    let bits : field_bits w (number bs) ≡ bs = rw whole at (field_bits-number bs (below_take 2 w (drop at B) (below_drop 2 at B h))) in
    rw (bits, ← (drop-drop w at B), take-append-drop w (drop at B))

-- a field where a number's bits stand is that number
pub field_here : (B rest : List ℕ) (at w v : ℕ) → v < 2 ^ w → drop at B ≡ field_bits w v ++ rest → field B at w ≡ v
unfolding field
field_here B rest at w v h e = rw (e, take_at (field_bits w v) rest w (length-field_bits w v), number-field_bits w v) (mod-eq_of_lt h)

-- past a number's bits stands what follows them
pub field_past : (B rest : List ℕ) (at w v : ℕ) → drop at B ≡ field_bits w v ++ rest → drop (at + w) B ≡ rest
field_past B rest at w v e = sym (drop-drop w at B) ∙ rw (e, drop_at (field_bits w v) rest w (length-field_bits w v))
