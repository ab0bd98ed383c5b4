-- The ways out of reading a start, a cost and a move.
--     read_refused, read_good     what is read, from the code's answer
--     passed_same                 the result of `?`
--     vertex_read, vertex_whole
--     start_cut, start_outside, start_off, start_none, start_whole
--     cost_cut, cost_other, cost_same
--     agree                       whether a move is the last, and whether it enters a pin
--     move_cut, move_illegal, move_other, move_judged
use Prim.Native.Nat.{ℕ, ◌+◌, ◌≤◌, ◌<◌}
use mathlib.Core.Path.{◌≡◌, refl, sym, ap, ◌∙◌}
use mathlib.Core.List.{List}
use mathlib.Core.Bool.{Bool, true, false, not, beq, cond}
use native.Mathlib.Omega.{arith}
use lib.ListN.{length, get_or}
use lib.Dec.{eqb}
use borrow.Author.Tests.{leb-true, le-leb, lt-leb, ne_eqb}
use Rattle.bits.specs.Bits.{bits_of, field, whole}
use Rattle.job.specs.Grid.{Grid, Vertex, vertices, vertex_number, inside}
use Rattle.job.specs.Job.{largest_min_length}
use Rattle.job.specs.Structs.{grid_of, vertex_of, vertex_struct, vertex_group}
use Rattle.job.specs.declared.grid.Vertex.{Vertex as VertexStruct}
use Rattle.job.specs.Reading.{Read, refused, good, ◌>>◌, rule, vertex_at}
use Rattle.job.specs.Refusals.{number_of, read_of}
use Rattle.job.specs.declared.refusal.Refusal.TheVariants.{Move}
use Rattle.job.specs.declared.refusal.Refused.{Refused}
use Rattle.job.proofs.Grids.{number_below}
use Rattle.job.proofs.Binds.{good_good, then_good}
use Rattle.rules.specs.Views.{View}
use Rattle.rules.specs.Segments.{Place}
use Rattle.rules.specs.Prices.{Tech}
use Rattle.rules.specs.Steps.{Made, Stepped, illegal, legal, step}
use Rattle.rules.specs.Places.{GoodSegment}
use Rattle.rules.specs.Structs.{Short, segment_of, tech_by, place_of, stepped_by, made_by, WholeStep, IsStepped}
use Rattle.rules.specs.declared.price.Prices.{Prices}
use Rattle.rules.specs.declared.segment.Segment.{Segment as SegmentEnum}
use Rattle.rules.specs.declared.segment.Segment.TheVariants.{Fresh, Running, Paid, PaidToward}
use Rattle.rules.specs.declared.step.Place.{Place as PlaceStruct}
use Rattle.rules.proofs.Techs.{largest_small}
use Rattle.plan.specs.Reading.{group}
use Rattle.walker.proofs.Landing.{step_lands}
use Rattle.replay.specs.Following.{read_start, read_cost, judged_by, judged_move}
use Rattle.replay.specs.Structs.{AtPlace, judged_of, WholeJudged, IsJudged}
use Rattle.rules.specs.declared.step.Made.{Made as MadeStruct}
use Rattle.std.specs.Result.{IsErr, IsErrAnd}
use Rattle.std.proofs.lemmas.Result.{err_from_is_err_and}
use Rattle.std.proofs.Common.{Option, Some, None, Result, Ok, Err}

-- what is read is refused where the code refuses
pub read_refused : {A : Type 0} {r : Result A Refused} {x : Read A} {e : Refused} → read_of r ≡ x → r ≡ Err e → x ≡ refused (number_of e.refusal) e.place
read_refused is told = sym (rw told at is)

-- and good where the code goes on
pub read_good : {A : Type 0} {r : Result A Refused} {x : Read A} {a : A} → read_of r ≡ x → r ≡ Ok a → x ≡ good a
read_good is told = sym (rw told at is)

-- the result of `?` is the refusal that it passes on
pub passed_same : {A : Type 0} {r : Result A Refused} {e : Refused} → IsErr r × IsErrAnd r (λ y. y ≡ e) → r ≡ Err e
passed_same {r = r} given = let told = err_from_is_err_and r given.1 in rw (told.1, told.2)

-- a group that is whole holds a shorter one
pub whole_less : (bits : List ℕ) (at : ℕ) {w : ℕ} (more : ℕ) → w ≤ more → whole bits at more ≡ true → whole bits at w ≡ true
unfolding whole
whole_less bits at {w} more h e = le-leb (at + w) (length bits) (omega (arith, leb-true (at + more) (length bits) e))

-- a vertex inside the grid has a number below that of its vertices
pub inside_below : (g : Grid) (v : Vertex) → inside g v ≡ true → vertex_number g v < vertices g
inside_below g v e = number_below g v (rw e tt)

-- a vertex that was read
pub vertex_read : (bytes : List ℕ) (at : ℕ) {r : Option VertexStruct} {v : VertexStruct} → whole (bits_of bytes) at 39 ≡ true → r ≡ vertex_group bytes at
    → r ≡ Some v → vertex_of v ≡ vertex_at (bits_of bytes) at
unfolding vertex_group
vertex_read bytes at {v = v} w is told =
    let whole-one : Some (vertex_struct (vertex_at (bits_of bytes) at)) ≡ Some v =
    sym (rw (whole_less (bits_of bytes) at {w = 19} 39 (omega arith) w) at is) ∙ told in
    let same : vertex_struct (vertex_at (bits_of bytes) at) ≡ v = cc in
    ap vertex_of (sym same)

-- where a start is whole, its vertex is
pub vertex_whole : (bytes : List ℕ) (at : ℕ) {r : Option VertexStruct} → whole (bits_of bytes) at 39 ≡ true → r ≡ vertex_group bytes at → r ≡ None → ⊥
unfolding vertex_group
vertex_whole bytes at w is told =
    let whole-one : Some (vertex_struct (vertex_at (bits_of bytes) at)) ≡ None =
    sym (rw (whole_less (bits_of bytes) at {w = 19} 39 (omega arith) w) at is) ∙ told in
    let z : ◌≡◌ {A = ℕ} 0 1 = cc in
    omega arith

module _ (bits : List ℕ) (g : Grid) (spots : List ℕ) (at : ℕ) where
  -- a start with its count that is not whole
  pub start_cut : whole bits at 39 ≡ false → read_start bits g spots at ≡ refused 15 at
  unfolding read_start rule ◌>>◌
  start_cut w = rw w refl

  module _ (w : whole bits at 39 ≡ true) {v : Vertex} (is : v ≡ vertex_at bits at) where
    -- a start outside the grid
    pub start_outside : inside g v ≡ false → read_start bits g spots at ≡ refused 16 at
    unfolding read_start rule ◌>>◌
    start_outside out = rw (w, ← is, out) refl

    module _ (in-grid : inside g v ≡ true) {n : ℕ} (number : n ≡ vertex_number g v) where
      -- a start off the tree
      pub start_off : (get_or spots n 0 ≡ 1 → ⊥) → read_start bits g spots at ≡ refused 16 at
      unfolding read_start rule ◌>>◌
      start_off off = rw (w, ← is, in-grid, ← number, ne_eqb (get_or spots n 0) 1 off) refl

      module _ (on : get_or spots n 0 ≡ 1) {count : ℕ} (counted : count ≡ field bits (at + 19) 20) where
        -- no move
        pub start_none : count < 1 → read_start bits g spots at ≡ refused 17 (at + 19)
        unfolding read_start rule ◌>>◌
        start_none none = rw (w, ← is, in-grid, ← number, on, ← counted, lt-leb 1 count none) refl

        -- a start
        pub start_whole : 1 ≤ count → read_start bits g spots at ≡ good (record { vertex = n; moves = count })
        unfolding read_start rule ◌>>◌
        start_whole some = rw (w, ← is, in-grid, ← number, on, ← counted, le-leb 1 count some) refl

module _ (bits : List ℕ) (at cost : ℕ) where
  -- a cost that is not whole
  pub cost_cut : whole bits at 40 ≡ false → read_cost bits at cost ≡ refused 15 at
  unfolding read_cost rule ◌>>◌
  cost_cut w = rw w refl

  -- a cost that differs
  pub cost_other : whole bits at 40 ≡ true → eqb (field bits at 40) cost ≡ false → read_cost bits at cost ≡ refused 18 at
  unfolding read_cost rule ◌>>◌
  cost_other w e = rw (w, e) refl

  -- the cost
  pub cost_same : whole bits at 40 ≡ true → eqb (field bits at 40) cost ≡ true → read_cost bits at cost ≡ good (at + 40)
  unfolding read_cost rule ◌>>◌
  cost_same w e = rw (w, e) refl

-- two tests agree where the code's test that they differ fails
pub agree : (a b : Bool) {differ : Bool} → not (beq a b) ≡ differ → cond a b (not b) ≡ not differ
agree true true h = ap (λ (d : Bool). not d) h
agree true false h = ap (λ (d : Bool). not d) h
agree false true h = ap (λ (d : Bool). not d) h
agree false false h = ap (λ (d : Bool). not d) h

module _ (bits : List ℕ) (t : Tech) (view : View) (spots : List ℕ) (last : Bool) (at : ℕ) (p : Place) where
  -- a move that is not whole
  pub move_cut : whole bits at 2 ≡ false → judged_move bits t view spots last at p ≡ refused 15 at
  unfolding judged_move rule ◌>>◌
  move_cut w = rw w refl

  module _ (w : whole bits at 2 ≡ true) where
    -- a move that is not legal
    pub move_illegal : step t view p (field bits at 2) ≡ illegal → judged_move bits t view spots last at p ≡ refused 17 at
    unfolding judged_move judged_by rule ◌>>◌
    move_illegal s = rw (w, s) refl

    module _ {made : Made} (s : step t view p (field bits at 2) ≡ legal made) where
      -- a move that enters a pin early, or that is the last and enters none
      pub move_other : cond (eqb (get_or spots made.next.vertex 0) 2) last (not last) ≡ false → judged_move bits t view spots last at p ≡ refused 17 at
      unfolding judged_move judged_by rule ◌>>◌
      move_other differ = rw (w, s, differ) refl

      -- a legal move
      pub move_judged : cond (eqb (get_or spots made.next.vertex 0) 2) last (not last) ≡ true → judged_move bits t view spots last at p ≡ good made
      unfolding judged_move judged_by rule ◌>>◌
      move_judged same = rw (w, s, same) refl

-- ---- what the code's step says of a move

-- a good place has a short segment
pub place_short : (prices : Prices) (p : PlaceStruct) → AtPlace prices p → Short p.segment
unfolding Short GoodSegment segment_of
place_short prices p here = by p.segment here.place.segment
  where
    few : largest_min_length (tech_by prices.tech).lines ≤ 15
    few = largest_small prices.fits.good

    by : (s : SegmentEnum) → GoodSegment (largest_min_length (tech_by prices.tech).lines) (segment_of s) → Short s
    by Fresh h = tt
    by (Running d n) h = omega (arith, h.1, few)
    by Paid h = tt
    by (PaidToward d) h = tt

-- a move that the code makes from a good place enters a vertex of the array
pub made_below : (prices : Prices) (p : PlaceStruct) (view : View) (number : ℕ) {r : Option MadeStruct} {m : MadeStruct} → AtPlace prices p
    → IsStepped (grid_of prices.tech.grid) view (place_of p) r (step (tech_by prices.tech) view (place_of p) number) → r ≡ Some m
    → m.next.vertex < 16384
unfolding stepped_by made_by tech_by
made_below prices p view number here is told =
    let made = step_lands view (place_of p) number prices.fits.good here.place (sym (rw told at is.same)) in
    omega (arith, made.place.vertex, prices.fits.sized.vertices)

module _ (bits : List ℕ) (t : Tech) (view : View) (spots : List ℕ) (last : Bool) (at : ℕ) (p : Place) (w : whole bits at 2 ≡ true)
    {number : ℕ} (numbered : number ≡ field bits at 2) {r : Option MadeStruct} (is : IsStepped t.grid view p r (step t view p number)) where
  abbrev Judges : Result MadeStruct Refused → Type 0
  Judges j = IsJudged t.grid view p j (judged_move bits t view spots last at p)

  -- a move that is not legal
  pub judged_illegal : r ≡ None → Judges (Err (record { refusal = Move; place = at }))
  unfolding judged_of WholeJudged stepped_by
  judged_illegal told =
      record { same = sym (move_illegal bits t view spots last at p w (ap (step t view p) (sym numbered) ∙ sym (rw told at is.same))); whole = tt }

  module _ {m : MadeStruct} (told : r ≡ Some m) where
    -- the definition's move
    legal_made : step t view p (field bits at 2) ≡ legal (made_by t.grid view p m)
    unfolding stepped_by
    legal_made = ap (step t view p) (sym numbered) ∙ sym (rw told at is.same)

    -- a move that enters a pin early, or that is the last and enters none
    pub judged_other : cond (eqb (get_or spots m.next.vertex 0) 2) last (not last) ≡ false → Judges (Err (record { refusal = Move; place = at }))
    unfolding judged_of WholeJudged made_by
    judged_other differ = record { same = sym (move_other bits t view spots last at p w legal_made differ); whole = tt }

    -- a legal move
    pub judged_good : cond (eqb (get_or spots m.next.vertex 0) 2) last (not last) ≡ true → Judges (Ok m)
    unfolding judged_of WholeJudged made_by WholeStep
    judged_good same =
        record { same = sym (move_judged bits t view spots last at p w legal_made same); whole = rw told at is.whole }

-- a move that is judged good is a legal step
pub judged-step : (bits : List ℕ) (t : Tech) (view : View) (spots : List ℕ) (last : Bool) (at : ℕ) (p : Place) {made : Made}
    → judged_move bits t view spots last at p ≡ good made → step t view p (field bits at 2) ≡ legal made
unfolding judged_move judged_by
judged-step bits t view spots last at p {made} e = by (step t view p (field bits at 2)) ((then_good (group bits at 2) _ made).0 e).1
  where
    by : (x : Stepped) → judged_by at last spots x ≡ good made → x ≡ legal made
    by illegal h = let z : ◌≡◌ {A = ℕ} 0 1 = cc in absurd (omega arith)
    by (legal m) h = ap legal ((good_good m made).0 ((then_good (rule 17 at (cond (eqb (get_or spots m.next.vertex 0) 2) last (not last))) (good m) made).0 h).1)
