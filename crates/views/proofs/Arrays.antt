-- A net's boxes, read back from the array that they are stored in, six numbers each: boxes_in_lem.
use Prim.Native.Nat.{ℕ, zero, suc, ◌+◌, ◌*◌, ◌≤◌}
use mathlib.Core.Path.{◌≡◌, refl, ap, ◌∙◌}
use mathlib.Core.List.{List, [], ◌∷◌, ◌++◌, flat_map}
use native.Mathlib.Omega.{arith}
use lib.ListN.{length, get_or, drop}
use lib.Seq.{sets, sets-eq}
use Rattle.job.specs.Job.{Box}
use Rattle.reader.specs.Loading.{box_numbers}
use Rattle.views.specs.Sight.{boxes_in}

-- a number behind those of a box
number_behind : (b : Box) (rest : List ℕ) (i : ℕ) → get_or (box_numbers b ++ rest) (i + 6) 0 ≡ get_or rest i 0
unfolding box_numbers
number_behind b rest i =
    let six : i + 6 ≡ suc (suc (suc (suc (suc (suc i))))) = omega arith in
    rw six refl

-- boxes behind those of a box
boxes_behind : (b : Box) (rest : List ℕ) (from n : ℕ) → boxes_in (box_numbers b ++ rest) (from + 6) n ≡ boxes_in rest from n
unfolding boxes_in
boxes_behind b rest from zero = refl
boxes_behind b rest from (suc n) = λ i. record {
  layer_low = number_behind b rest from i;
  layer_high = at 1 i;
  row_low = at 2 i;
  row_high = at 3 i;
  column_low = at 4 i;
  column_high = at 5 i;
} ∷ boxes_behind b rest (from + 6) n i
  where
    at : (k : ℕ) → get_or (box_numbers b ++ rest) (from + 6 + k) 0 ≡ get_or rest (from + k) 0
    at k = let position : from + 6 + k ≡ from + k + 6 = omega arith in rw position (number_behind b rest (from + k))

-- six numbers each
boxes_length : (bs : List Box) → length (flat_map box_numbers bs) ≡ 6 * length bs
unfolding flat_map box_numbers
boxes_length [] = refl
boxes_length (b ∷ bs) = omega (arith, boxes_length bs)

-- boxes whose numbers come first
boxes_first : (bs : List Box) (rest : List ℕ) → boxes_in (flat_map box_numbers bs ++ rest) 0 (length bs) ≡ bs
unfolding flat_map boxes_in box_numbers
boxes_first [] rest = refl
boxes_first (b ∷ bs) rest = ap (λ (xs : List Box). b ∷ xs) (boxes_behind b (flat_map box_numbers bs ++ rest) 0 (length bs) ∙ boxes_first bs rest)

-- boxes, from six numbers each
pub boxes_in_lem : (bs : List Box) (found : List ℕ) → 6 * length bs ≤ length found → boxes_in (sets found 0 (flat_map box_numbers bs)) 0 (length bs) ≡ bs
boxes_in_lem bs found room =
    let numbers = flat_map box_numbers bs in
    rw (sets-eq numbers found 0 (omega (arith, boxes_length bs))) (boxes_first bs (drop (0 + length numbers) found))
