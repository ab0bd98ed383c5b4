-- Bits that stand in a list of bits from a position on, and groups of fields that stand there.
--     Placed                       bits stand in B from a position on
--     placed, placed_nil           bits with anything behind them do; no bits do
--     placed-append                two runs do where the first does, and the second behind it
--     placed-whole                 some bits that stand there are all there
--     widths, length-group_bits    the bits that a group of fields takes
--     Fits, FieldsAt               numbers fit their fields; the fields from a position on hold these numbers
--     group-placed                 a group of fields stands there and fits, where the group is whole and its
--                                  fields hold its numbers
use Prim.Native.Nat.{ℕ, ◌+◌, ◌^◌, ◌≤◌, ◌<◌}
use native.Mathlib.Nat.{add-zero, zero-add}
use native.Mathlib.Omega.{arith}
use mathlib.Core.Path.{◌≡◌, refl, ap}
use mathlib.Core.Logic.{◌↔◌}
use mathlib.Core.List.{List, [], ◌∷◌, ◌++◌, append_assoc}
use lib.ListN.{length, drop, length-append, length-drop}
use lib.Seq.{drop-drop, drop-append_seam}
use lib.Dec.{T, leb→le, le→leb}
use Rattle.bits.specs.Bits.{field, whole, field_bits, group_bits}
use Rattle.bits.specs.Puts.{AllBelow}
use Rattle.bits.proofs.Laws.{length-field_bits, field_below, field_split, field_here}

-- bits stand in B from a position on
unfoldable pub Placed : (B : List ℕ) (at : ℕ) (bits : List ℕ) → Type 0
Placed B at bits = drop at B ≡ bits ++ drop (at + length bits) B

-- bits with anything behind them stand there
pub placed : (B : List ℕ) (at : ℕ) (bits rest : List ℕ) → drop at B ≡ bits ++ rest → Placed B at bits
unfolding Placed
placed B at bits rest e = rw (← drop-drop (length bits) at B, e, drop-append_seam)

-- no bits stand everywhere
pub placed_nil : (B : List ℕ) (at : ℕ) → Placed B at []
placed_nil B at = placed B at [] (drop at B) refl

-- two runs stand there where the first does, and the second behind it
pub placed-append : (B : List ℕ) (at : ℕ) (xs ys : List ℕ) → Placed B at (xs ++ ys) ↔ (Placed B at xs × Placed B (at + length xs) ys)
unfolding Placed
placed-append B at xs ys = (apart, together)
  where
    rest : List ℕ
    rest = drop (at + length (xs ++ ys)) B

    same_end : at + length xs + length ys ≡ at + length (xs ++ ys)
    same_end = omega (arith, length-append xs ys)

    apart : Placed B at (xs ++ ys) → Placed B at xs × Placed B (at + length xs) ys
    apart e =
        let first : drop at B ≡ xs ++ (ys ++ rest) = rw append_assoc at e in
        let second : drop (at + length xs) B ≡ ys ++ rest = rw (← drop-drop (length xs) at B, first, drop-append_seam) in
        (placed B at xs (ys ++ rest) first, placed B (at + length xs) ys rest second)

    together : Placed B at xs × Placed B (at + length xs) ys → Placed B at (xs ++ ys)
    together h = rw (append_assoc, ← same_end, ← h.1) h.0

-- some bits that stand there are all there
pub placed-whole : (B : List ℕ) (at : ℕ) (bits : List ℕ) → 0 < length bits → Placed B at bits → at + length bits ≤ length B
unfolding Placed
placed-whole B at bits some e = omega (arith, simp (length-append, length-drop) at (ap length e))

-- the bits that a group takes
unfoldable pub widths : List (ℕ × ℕ) → ℕ
widths [] = 0
widths (f ∷ fs) = f.0 + widths fs

-- a group has as many bits
pub length-group_bits : (fs : List (ℕ × ℕ)) → length (group_bits fs) ≡ widths fs
unfolding group_bits widths
length-group_bits [] = refl
length-group_bits (f ∷ fs) = simp (length-append, length-field_bits, length-group_bits fs)

-- each number fits its field
abbrev pub Fits : List (ℕ × ℕ) → Type 0
Fits [] = Unit
Fits (f ∷ fs) = (f.1 < 2 ^ f.0) × Fits fs

-- the fields from a position and an offset on hold these numbers
abbrev pub FieldsFrom : (B : List ℕ) (at offset : ℕ) → List (ℕ × ℕ) → Type 0
FieldsFrom B at offset [] = Unit
FieldsFrom B at offset (f ∷ fs) = (field B (at + offset) f.0 ≡ f.1) × FieldsFrom B at (offset + f.0) fs

-- the fields from a position on hold these numbers
abbrev pub FieldsAt : (B : List ℕ) (at : ℕ) → List (ℕ × ℕ) → Type 0
FieldsAt B at [] = Unit
FieldsAt B at (f ∷ fs) = (field B at f.0 ≡ f.1) × FieldsFrom B at f.0 fs

module _ (B : List ℕ) (at : ℕ) where
  -- fields that stand there and fit are read back
  held : (offset : ℕ) (fs : List (ℕ × ℕ)) → Placed B (at + offset) (group_bits fs) → Fits fs → FieldsFrom B at offset fs
  unfolding Placed group_bits
  held offset [] p fit = tt
  held offset (f ∷ fs) p fit =
      let both = (placed-append B (at + offset) (field_bits f.0 f.1) (group_bits fs)).0 p in
      let next : at + offset + length (field_bits f.0 f.1) ≡ at + (offset + f.0) = omega (arith, length-field_bits f.0 f.1) in
      (field_here B _ (at + offset) f.0 f.1 fit.0 both.0, held (offset + f.0) fs (rw next at both.1) fit.1)

  -- fields that are read there stand there and fit
  stand : AllBelow 2 B → (offset : ℕ) (fs : List (ℕ × ℕ)) → at + offset + widths fs ≤ length B → FieldsFrom B at offset fs
      → Placed B (at + offset) (group_bits fs) × Fits fs
  unfolding group_bits widths
  stand bits offset [] enough h = (placed_nil B (at + offset), tt)
  stand bits offset (f ∷ fs) enough h =
      let next : at + offset + length (field_bits f.0 f.1) ≡ at + (offset + f.0) = omega (arith, length-field_bits f.0 f.1) in
      let first = rw h.0 at (field_split B (at + offset) f.0 bits (omega arith)) in
      let rest = stand bits (offset + f.0) fs (omega arith) h.1 in (
        (placed-append B (at + offset) (field_bits f.0 f.1) (group_bits fs)).1 (placed B (at + offset) _ _ first, rw next rest.0),
        (rw h.0 at (field_below B (at + offset) f.0 bits), rest.1),
      )

  -- the fields from a position on, and from the offset 0 on
  from_zero : (fs : List (ℕ × ℕ)) → FieldsFrom B at 0 fs ≡ FieldsAt B at fs
  from_zero [] = refl
  from_zero (f ∷ fs) = rw (add-zero, zero-add)

  -- a group of fields stands there and fits, where the group is whole and its fields hold its numbers
  pub group-placed : AllBelow 2 B → (fs : List (ℕ × ℕ)) → 0 < widths fs
      → (Placed B at (group_bits fs) × Fits fs) ↔ (T (whole B at (widths fs)) × FieldsAt B at fs)
  unfolding whole
  group-placed bits fs some = (read, write)
    where
      read : Placed B at (group_bits fs) × Fits fs → T (whole B at (widths fs)) × FieldsAt B at fs
      read h =
          let there : at + length (group_bits fs) ≤ length B = placed-whole B at (group_bits fs) (omega (arith, length-group_bits fs)) h.0 in (
            le→leb (at + widths fs) (length B) (omega (arith, length-group_bits fs)),
            rw from_zero at (held 0 fs (rw add-zero h.0) h.1),
          )

      write : T (whole B at (widths fs)) × FieldsAt B at fs → Placed B at (group_bits fs) × Fits fs
      write h = rw add-zero at (stand bits 0 fs (rw add-zero (leb→le (at + widths fs) (length B) h.0)) (rw from_zero h.1))
