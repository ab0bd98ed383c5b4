-- Laws of bits that are put into bytes.
--     length-put_bits, put_bits-append, put_bytes    the number of bytes, putting in two goes, bytes stay
--                                                    bytes
--     bits_of-put_bits                               all the bits after putting: those before, those put,
--                                                    zero bits, those of later bytes
--     put_earlier, put_later                         what stays
--     put_read, put_field                            a read gives back what was put
--     put_packed                                     put from the start: the packed bits, and what stood
--                                                    beyond
-- Not here: how the code puts a part of a field into one byte (Turn).
use Prim.Native.Nat.{ℕ, suc, ◌+◌, ◌-◌, ◌*◌, ◌/◌, ◌%◌, ◌^◌, ◌≤◌, ◌<◌}
use mathlib.Core.Path.{◌≡◌, refl, sym, ap, ◌∙◌}
use mathlib.Core.List.{List, [], ◌∷◌, ◌++◌, append_assoc}
use native.Mathlib.Nat.{mod-eq_of_lt, mul-mod_left, add-suc, suc-add, add-zero, le_refl, mul-lt-mul_of_pos_right}
use native.Mathlib.Decide.{dec_lt}
use native.Mathlib.Omega.{arith}
use lib.ListN.{length, take, drop, get_or, set, replicate, length-set}
use lib.Seq.{take-append_seam, take_at, drop_at, take-add, take-take, take-append-le, take-append-add, set_split, set_out, drop-set-lt, length-take-le}
use lib.Arith.{digits_lt}
use lib.Pow.{pow_pos, pow-add, shr_lt, shl-shr}
use Rattle.bits.specs.Bits.{field_bits, number, bits_of, pack_to, pack_bits, field}
use Rattle.bits.specs.Puts.{put_in_byte, put_bit, put_bits, AllBelow}
use Rattle.bits.proofs.Laws.Numbers.{length-field_bits, field_bits_bits, field_bits_zero, field_bits-mod, field_bits_join, take-field_bits, number-field_bits, below_append, below_drop, below_set, below_get_or}
use Rattle.bits.proofs.Laws.Bytes.{length-bits_of, bits_of-append, bits_of-take, bits_of-drop, byte_at, bits_of_inj, bits_of-pack_bits, pack_bits_bytes}

-- ---- putting, byte by byte

-- as many bytes as before
pub length-put_bits : (s : List ℕ) (at : ℕ) (bs : List ℕ) → length (put_bits s at bs) ≡ length s
unfolding put_bits put_bit
length-put_bits s at [] = refl
length-put_bits s at (b ∷ bs) = length-put_bits (put_bit s at b) (suc at) bs ∙ simp length-set

-- some bits, and then others after them
pub put_bits-append : (s : List ℕ) (at : ℕ) (xs ys : List ℕ) → put_bits s at (xs ++ ys) ≡ put_bits (put_bits s at xs) (at + length xs) ys
unfolding put_bits
put_bits-append s at [] ys = rw add-zero
put_bits-append s at (x ∷ xs) ys = rw (add-suc, ← suc-add) (put_bits-append (put_bit s at x) (suc at) xs ys)

-- the bytes past the last bit put stay
pub put_later : (s : List ℕ) (at n : ℕ) (bs : List ℕ) → at + length bs ≤ 8 * n → drop n (put_bits s at bs) ≡ drop n s
unfolding put_bits put_bit
put_later s at n [] h = refl
put_later s at n (b ∷ bs) h =
    put_later (put_bit s at b) (suc at) n bs (omega arith) ∙ drop-set-lt n s (at / 8) _ (omega arith)

-- a bit before q digits
bit_below : (q b : ℕ) → b < 2 → b * 2 ^ q < 2 ^ suc q
bit_below q b h = omega (arith, mul-lt-mul_of_pos_right h (pow_pos q))

-- a byte with a bit put into it is a byte
put_in_byte_byte : (byte p b : ℕ) → byte < 256 → p < 8 → b < 2 → put_in_byte byte p b < 256
unfolding put_in_byte
put_in_byte_byte byte p b h hp hb =
    let eight : p + (8 - p) ≡ 8 = omega arith in
    let more : 8 - p ≡ suc (7 - p) = omega arith in
    let high : byte / 2 ^ (8 - p) < 2 ^ p = shr_lt p (8 - p) (rw eight h) in
    let bit : b * 2 ^ (7 - p) < 2 ^ (8 - p) = rw more (bit_below (7 - p) b hb) in
    rw (← (pow-add 2 p (8 - p)), eight) at (digits_lt high bit)

-- bytes stay bytes
pub put_bytes : (s : List ℕ) (at : ℕ) (bs : List ℕ) → AllBelow 256 s → AllBelow 2 bs → AllBelow 256 (put_bits s at bs)
unfolding AllBelow put_bits put_bit
put_bytes s at [] h k = h
put_bytes s at (b ∷ bs) h k =
    let byte = put_in_byte_byte (get_or s (at / 8) 0) (at % 8) b (below_get_or 256 s (at / 8) h (omega arith)) (omega arith) k.0 in
    put_bytes (put_bit s at b) (suc at) bs (below_set 256 s (at / 8) _ h byte) k.1

-- ---- one bit

-- the bits of bytes after a store
bits_of-set : (s : List ℕ) (i y : ℕ) → i < length s → bits_of (set s i y) ≡ take (8 * i) (bits_of s) ++ (field_bits 8 y ++ drop (8 * suc i) (bits_of s))
unfolding bits_of
bits_of-set s i y h = rw (set_split s i y h, bits_of-append (take i s) (y ∷ drop (suc i) s), bits_of-take, bits_of-drop (suc i) s)

-- a bit, and then zero bits
field_bits_bit : (q b : ℕ) → b < 2 → field_bits (suc q) (b * 2 ^ q) ≡ b ∷ replicate q 0
unfolding field_bits
field_bits_bit q b h = rw (shl-shr b q, mod-eq_of_lt h, ← (field_bits-mod q q (b * 2 ^ q) (le_refl q)), mul-mod_left b (2 ^ q), field_bits_zero q)

-- the bits of a byte with a bit put into it: those before, the bit, zero bits
field_bits_put : (byte p b : ℕ) → p < 8 → b < 2 → field_bits 8 (put_in_byte byte p b) ≡ take p (field_bits 8 byte) ++ (b ∷ replicate (7 - p) 0)
unfolding put_in_byte
field_bits_put byte p b hp hb =
    let q = 7 - p in
    let more : 8 - p ≡ suc q = omega arith in
    let eight : p + suc q ≡ 8 = omega arith in
    rw (take-field_bits p 8 byte (omega arith), more) (rw eight at (field_bits_join p (suc q) (byte / 2 ^ suc q) (b * 2 ^ q) (bit_below q b hb)) ∙ rw (field_bits_bit q b hb))

-- the bits before a position in a byte
take_position : (s : List ℕ) (i p : ℕ) → i < length s → p < 8 → take (8 * i + p) (bits_of s) ≡ take (8 * i) (bits_of s) ++ take p (field_bits 8 (get_or s i 0))
take_position s i p h hp =
    rw (take-add (8 * i) p, byte_at s i h, take-append-le p (field_bits 8 (get_or s i 0)) (drop (8 * suc i) (bits_of s)) (omega (arith, length-field_bits 8 (get_or s i 0))))

-- all the bits after putting one: those before, the bit, zero bits up to the end of its byte, those of later
-- bytes
bits_of-put_bit : (s : List ℕ) (at b : ℕ) → at / 8 < length s → b < 2
    → bits_of (put_bit s at b) ≡ take at (bits_of s) ++ (b ∷ (replicate (7 - at % 8) 0 ++ drop (8 * suc (at / 8)) (bits_of s)))
unfolding put_bit
bits_of-put_bit s at b h hb =
    let i = at / 8 in
    let p = at % 8 in
    let byte = get_or s i 0 in
    let position : 8 * i + p ≡ at = omega arith in
    let before : take at (bits_of s) ≡ take (8 * i) (bits_of s) ++ take p (field_bits 8 byte) = rw position at (take_position s i p h (omega arith)) in
    rw (before, bits_of-set s i (put_in_byte byte p b) h, field_bits_put byte p b (omega arith) hb) (simp append_assoc)

-- as many bits as there are before a position
length_before : (s : List ℕ) (at : ℕ) → at ≤ 8 * length s → length (take at (bits_of s)) ≡ at
length_before s at h = length-take-le at (bits_of s) (rw length-bits_of h)

-- the bits up to and with a bit that was put
take-put_bit : (s : List ℕ) (at b : ℕ) → at < 8 * length s → b < 2 → take (suc at) (bits_of (put_bit s at b)) ≡ take at (bits_of s) ++ (b ∷ [])
take-put_bit s at b h hb =
    let next : suc at ≡ length (take at (bits_of s)) + 1 = omega (arith, length_before s at (omega arith)) in
    rw (bits_of-put_bit s at b (omega arith) hb, next) (take-append-add (take at (bits_of s)) _ 1)

-- the bits before a bit that is put stay
put_bit_earlier : (s : List ℕ) (at b : ℕ) → b < 2 → take at (bits_of (put_bit s at b)) ≡ take at (bits_of s)
unfolding put_bit
put_bit_earlier s at b hb = by (dec_lt at (8 * length s))
  where
    by : Dec (at < 8 * length s) → take at (bits_of (put_bit s at b)) ≡ take at (bits_of s)
    by (yes h) = rw (bits_of-put_bit s at b (omega arith) hb) (take_at (take at (bits_of s)) _ at (length_before s at (omega arith)))
    by (no h) = rw (set_out s (at / 8) (put_in_byte (get_or s (at / 8) 0) (at % 8) b) (omega arith))

-- ---- many bits

-- the bits before those that are put stay
pub put_earlier : (s : List ℕ) (at : ℕ) (bs : List ℕ) → AllBelow 2 bs → take at (bits_of (put_bits s at bs)) ≡ take at (bits_of s)
unfolding put_bits AllBelow
put_earlier s at [] h = refl
put_earlier s at (b ∷ bs) h =
    let next = put_bit s at b in
    sym (take-take at (suc at) (bits_of (put_bits next (suc at) bs)) (omega arith))
    ∙ ap (take at) (put_earlier next (suc at) bs h.1)
    ∙ take-take at (suc at) (bits_of next) (omega arith)
    ∙ put_bit_earlier s at b h.0

-- all the bits after putting some, which end k bits before the end of a byte: those before, those put, zero
-- bits, those of later bytes
pub bits_of-put_bits : (s : List ℕ) (at b : ℕ) (bs : List ℕ) (k n : ℕ) → AllBelow 2 (b ∷ bs) → at + suc (length bs) + k ≡ 8 * n → k < 8 → n ≤ length s
    → bits_of (put_bits s at (b ∷ bs)) ≡ take at (bits_of s) ++ (b ∷ (bs ++ (replicate k 0 ++ drop (8 * n) (bits_of s))))
unfolding put_bits AllBelow
bits_of-put_bits s at b [] k n h e hk hn =
    let zeros : k ≡ 7 - at % 8 = omega arith in
    let bytes : n ≡ suc (at / 8) = omega arith in
    rw (zeros, bytes) (bits_of-put_bit s at b (omega arith) h.0)
bits_of-put_bits s at b (c ∷ bs) k n h e hk hn =
    let next = put_bit s at b in
    let same : length next ≡ length s = length-put_bits s at (b ∷ []) in
    let later : drop (8 * n) (bits_of next) ≡ drop (8 * n) (bits_of s) =
    sym (bits_of-drop n next) ∙ ap bits_of (put_later s at n (b ∷ []) (omega arith)) ∙ bits_of-drop n s in
    bits_of-put_bits next (suc at) c bs k n h.1 (omega arith) hk (omega arith)
    ∙ rw (take-put_bit s at b (omega arith) h.0, later) (append_assoc (take at (bits_of s)) (b ∷ []) _)

-- a read gives back the bits that were put
pub put_read : (s : List ℕ) (at : ℕ) (bs : List ℕ) → AllBelow 2 bs → at + length bs ≤ 8 * length s → take (length bs) (drop at (bits_of (put_bits s at bs))) ≡ bs
put_read s at [] h l = refl
put_read s at (b ∷ bs) h l =
    let end = at + suc (length bs) in
    let n = (end + 7) / 8 in
    rw (bits_of-put_bits s at b bs (8 * n - end) n h (omega arith) (omega arith) (omega arith), drop_at (take at (bits_of s)) _ at (length_before s at (omega arith)))
    (take-append_seam (b ∷ bs) _)

-- and the number that was put
pub put_field : (s : List ℕ) (at w v : ℕ) → at + w ≤ 8 * length s → field (bits_of (put_bits s at (field_bits w v))) at w ≡ v % 2 ^ w
unfolding field
put_field s at w v l =
    let bs = field_bits w v in
    let read : take w (drop at (bits_of (put_bits s at bs))) ≡ bs = rw length-field_bits at (put_read s at bs (field_bits_bits w v) (rw length-field_bits l)) in
    ap number read ∙ number-field_bits w v

-- bits put from the start: the packed bits, and the bytes that stood beyond
pub put_packed : (s bs : List ℕ) → AllBelow 256 s → AllBelow 2 bs → length bs ≤ 8 * length s → put_bits s 0 bs ≡ pack_bits bs ++ drop ((length bs + 7) / 8) s
put_packed s [] h hb l = unfold put_bits pack_bits pack_to in refl
put_packed s (b ∷ bs) h hb l =
    let n = (suc (length bs) + 7) / 8 in
    let k = 8 * n - suc (length bs) in
    let bits : bits_of (put_bits s 0 (b ∷ bs)) ≡ bits_of (pack_bits (b ∷ bs) ++ drop n s) =
    rw (bits_of-put_bits s 0 b bs k n hb (omega arith) (omega arith) (omega arith), bits_of-append (pack_bits (b ∷ bs)) (drop n s), bits_of-pack_bits (b ∷ bs) hb, bits_of-drop n s) (sym (append_assoc (b ∷ bs) _ _)) in
    bits_of_inj (put_bits s 0 (b ∷ bs)) (pack_bits (b ∷ bs) ++ drop n s) (put_bytes s 0 (b ∷ bs) h hb)
    (below_append 256 (pack_bits (b ∷ bs)) (drop n s) (pack_bits_bytes (b ∷ bs) hb) (below_drop 256 n s h)) bits
