-- Reading the boxes of a net, way out by way out and turn by turn.
--     box_layers, box_rows, box_columns   a box, axis by axis
--     box_cut, box_told                   one box
--     BoxesLeft and its laws, boxes_end   boxes, in a loop, and where they end
use Prim.Native.Nat.{ℕ, suc, ◌+◌, ◌-◌, ◌*◌, ◌≤◌, ◌<◌}
use mathlib.Core.Path.{◌≡◌, refl, sym, ap, ◌∙◌}
use mathlib.Core.List.{List, ◌∷◌}
use mathlib.Core.Bool.{Bool, true, false}
use native.Mathlib.Omega.{arith}
use Rattle.std.proofs.Common.{Some, None}
use Rattle.bits.specs.Bits.{bits_of, whole}
use Rattle.job.specs.Grid.{Grid}
use Rattle.job.specs.Job.{Box}
use Rattle.job.specs.Reading.{Read, refused, good, ◌>>=◌, ◌>>◌, rule, read_many, box_at, good_span, good_box, read_box}
use Rattle.job.specs.Structs.{box_of, box_struct, box_group}
use Rattle.occupants.specs.Structs.{many_reached}
use Rattle.occupants.specs.Occupants.{with_occupants, boxes_from}
use Rattle.job.specs.declared.groups.Box.{Box as BoxStruct}
use Rattle.occupants.proofs.Answers.{many_at, many_refused, Ends, there, nowhere}

-- ---- one box

-- axis by axis
module _ (g : Grid) (b : Box) where
  -- its layers are wrong
  pub box_layers : good_span b.layer_low b.layer_high g.layers ≡ false → good_box g b ≡ false
  unfolding good_box
  box_layers l = rw l

  -- its rows are wrong
  pub box_rows : good_span b.layer_low b.layer_high g.layers ≡ true → good_span b.row_low b.row_high g.rows ≡ false
      → good_box g b ≡ false
  unfolding good_box
  box_rows l r = rw (l, r)

  -- its columns decide
  pub box_columns : good_span b.layer_low b.layer_high g.layers ≡ true → good_span b.row_low b.row_high g.rows ≡ true
      → good_box g b ≡ good_span b.column_low b.column_high g.columns
  unfolding good_box
  box_columns l r = rw (l, r)

module _ (bytes : List ℕ) (g : Grid) (at : ℕ) where
  -- a box that is cut is refused by 2
  pub box_cut : box_group bytes at ≡ None → many_reached (at + 38) (read_box (bits_of bytes) g 0 at) ≡ refused 2 at
  unfolding box_group read_box rule ◌>>◌ many_reached
  box_cut e = by (whole (bits_of bytes) at 38) refl
    where
      by : (b : Bool) → whole (bits_of bytes) at 38 ≡ b → many_reached (at + 38) (read_box (bits_of bytes) g 0 at) ≡ refused 2 at
      by true w = absurd (cc)
      by false w = rw w

  -- the rule of a box that is whole
  pub record BoxRules (b : BoxStruct) : Type 0 where
    pub bad : good_box g (box_of b) ≡ false → many_reached (at + 38) (read_box (bits_of bytes) g 0 at) ≡ refused 10 at
    pub fine : good_box g (box_of b) ≡ true → many_reached (at + 38) (read_box (bits_of bytes) g 0 at) ≡ good (at + 38)

  -- a box that is whole goes by it
  pub box_told : (b : BoxStruct) → box_group bytes at ≡ Some b → BoxRules b
  unfolding box_group read_box rule ◌>>◌ many_reached
  box_told b e = by (whole (bits_of bytes) at 38) refl
    where
      by : (t : Bool) → whole (bits_of bytes) at 38 ≡ t → BoxRules b
      by false w = absurd (cc)
      by true w =
          let same : b ≡ box_struct (box_at (bits_of bytes) at) = cc in
          rw same (record { bad = λ h. rw (w, h); fine = λ h. rw (w, h) })

-- ---- boxes

-- what is read from here on is what is read from the start
pub record BoxesLeft (bits : List ℕ) (g : Grid) (count from done at : ℕ) : Type 0 where
  pub same : boxes_from bits g count from ≡ boxes_from bits g (count - done) at
  pub ends : at ≡ from + 38 * done

-- at first all are left
pub boxes_all : (bits : List ℕ) (g : Grid) (count from : ℕ) → BoxesLeft bits g count from 0 from
boxes_all bits g count from = let all : count - 0 ≡ count = omega arith in record { same = rw all; ends = omega arith }

-- a box that was read, then the rest
boxes_more : (bits : List ℕ) (g : Grid) (n at : ℕ) (x : Box) → read_box bits g 0 at ≡ good x
    → boxes_from bits g (suc n) at ≡ boxes_from bits g n (at + 38)
unfolding boxes_from read_many read_box ◌>>=◌ ◌>>◌ many_reached
boxes_more bits g n at x e =
    let end : at + 38 * suc n ≡ at + 38 + 38 * n = omega arith in
    rw (end, e) (rest (read_many 38 (read_box bits g) n (at + 38)))
  where
    rest : (r : Read (List Box)) → many_reached (at + 38 + 38 * n) (◌>>=◌ r (λ xs. good (x ∷ xs))) ≡ many_reached (at + 38 + 38 * n) r
    rest (refused k p) = refl
    rest (good xs) = refl

-- a box that was refused
boxes_stop : (bits : List ℕ) (g : Grid) (k at n p : ℕ) → read_box bits g 0 at ≡ refused n p → boxes_from bits g (suc k) at ≡ refused n p
unfolding boxes_from read_many read_box ◌>>=◌ ◌>>◌ many_reached
boxes_stop bits g k at n p e = rw e

module _ {bits : List ℕ} {g : Grid} {count from done at : ℕ} (so_far : BoxesLeft bits g count from done at) where
  -- with boxes left, the next and the rest
  boxes_left : done < count → boxes_from bits g count from ≡ boxes_from bits g (suc (count - (done + 1))) at
  boxes_left h = let more : count - done ≡ suc (count - (done + 1)) = omega arith in rw more at so_far.same

  -- a box that was read
  pub boxes_next : {next : ℕ} → done < count → good next ≡ many_reached (at + 38) (read_box bits g 0 at)
      → BoxesLeft bits g count from (done + 1) next
  boxes_next {next} h e =
      let read = many_at (at + 38) (read_box bits g 0 at) next (sym e) in
      let position = read.0 in
      let old = so_far.ends in
      record { same = boxes_left h ∙ boxes_more bits g (count - (done + 1)) at read.1 read.2 ∙ rw position; ends = omega arith }

  -- a box that was refused
  pub boxes_refused : {n p : ℕ} → done < count → refused n p ≡ many_reached (at + 38) (read_box bits g 0 at)
      → boxes_from bits g count from ≡ refused n p
  boxes_refused {n} {p} h e =
      boxes_left h ∙ boxes_stop bits g (count - (done + 1)) at n p (many_refused (at + 38) (read_box bits g 0 at) n p (sym e))

  -- no box is left
  pub boxes_done : count ≤ done → boxes_from bits g count from ≡ good at
  unfolding boxes_from read_many many_reached ◌>>◌
  boxes_done h = let none : count - done ≡ 0 = omega arith in so_far.same ∙ rw none (ap good (omega arith))

-- boxes take 38 bits each
pub boxes_end : (bits : List ℕ) (g : Grid) (n at : ℕ) (m : List ℕ) → Ends (λ end. end ≡ at + 38 * n) (with_occupants m (boxes_from bits g n at))
unfolding boxes_from with_occupants many_reached ◌>>◌
boxes_end bits g n at m = by (read_many 38 (read_box bits g) n at)
  where
    by : (r : Read (List Box)) → Ends (λ end. end ≡ at + 38 * n) (with_occupants m (many_reached (at + 38 * n) r))
    by (refused k p) = nowhere k p m
    by (good xs) = there (at + 38 * n) m refl
