-- The counts of legal moves cost what the moves do.
--     penalty_fair, guide_fair,          a penalty is its price where it is added, and the price of
--     entering_fair                      entering the base with the penalties that are added
--     overhead_fair                      an overhead is the price of the added steps and penalised segments
--     way_worth, made_worth              a step or a via costs the base, and a move what its counts do
--     move_worth, walk-worth             the counts of a legal move, and of the moves of a join
--     walk_inside                        these moves enter vertices of the grid
use Prim.Native.Nat.{ℕ, zero, suc, ◌+◌, ◌*◌, ◌<◌}
use mathlib.Core.Path.{◌≡◌, refl, ap}
use mathlib.Core.List.{List, [], ◌∷◌}
use mathlib.Core.Bool.{Bool, true, false, not, ◌&&◌, cond}
use native.Mathlib.Nat.{le_refl}
use native.Mathlib.Omega.{arith}
use lib.ListN.{get_or}
use lib.Dec.{eqb}
use borrow.Author.Tests.{lt-ltb, le-ltb}
use Rattle.job.specs.Lists.{All}
use Rattle.job.specs.Grid.{vertices}
use Rattle.job.specs.Job.{Layer, closed_price}
use Rattle.paths.specs.Costs.{Cost, fin, inf, plus}
use Rattle.rules.specs.Tracks.{layer_of, Entered, outside, at, entered}
use Rattle.rules.specs.Views.{View}
use Rattle.rules.specs.Segments.{Kind, along, down, up, kind_of, Place, Grown, back, grown}
use Rattle.rules.specs.Prices.{Tech, line_of, charge, penalty, closing, base, guide_at, short_at, sum_cost, entering}
use Rattle.rules.specs.Overheads.{Overhead, forbidden, owes, overhead_of}
use Rattle.rules.specs.Steps.{Made, Stepped, illegal, legal, leaving, stepping, by_segment, if_priced, into, step, price_of, priced}
use Rattle.rules.specs.Walks.{walked, walk, total, walk_cost}
use Rattle.rules.specs.Places.{GoodPlace, GoodTech}
use Rattle.rules.proofs.Vertices.{vertex_below}
use Rattle.rules.proofs.Neighbours.{low_enters, high_enters, down_enters, up_enters, entered_below}
use Rattle.rules.proofs.Overheads.{overhead_holds}
use Rattle.rules.proofs.Moves.{step_keeps}
use Rattle.rules.proofs.Walks.{walk_first}
use Rattle.counts.specs.Counts.{kinds, steps, vias, added_steps, penalised, guide_entries, short_entries, count}
use Rattle.counts.specs.Counts.{one_if, way_count, move_counts, walk_counts}
use Rattle.counts.specs.Counts.{count_prices, report_prices}
use Rattle.counts.proofs.Worth.{counts_worth, counts_worth_append, prices_at, cost_of}

-- ---- the price of entering

-- a cost is so much, if there is one
Fair : (much : ℕ) → Cost → Type 0
Fair n (fin m) = n ≡ m
Fair n inf = Unit

-- a penalty is its price where it applies
penalty_fair : (applies : Bool) (p : ℕ) → Fair (one_if applies * p) (penalty applies p)
unfolding Fair one_if penalty charge
penalty_fair true p = by (eqb p closed_price)
  where
    by : (b : Bool) → Fair (1 * p) (cond b inf (fin p))
    by true = tt
    by false = omega arith
penalty_fair false p = omega arith

-- the guide penalty is its price where the vertex is not taken too
guide_fair : (out taken : Bool) (p : ℕ) → Fair (one_if (out && not taken) * p) (cond taken (closing (penalty out p)) (penalty out p))
unfolding Fair one_if closing penalty
guide_fair true true p = by (charge p)
  where
    by : (c : Cost) → Fair (0 * p) (closing c)
    by (fin n) = omega arith
    by inf = tt
guide_fair true false p = penalty_fair true p
guide_fair false true p = omega arith
guide_fair false false p = omega arith

-- a price with two penalties
with_fair : (b m n : ℕ) (x y : Cost) → Fair m x → Fair n y → Fair (b + (m + n)) (plus b (sum_cost x y))
unfolding Fair sum_cost
with_fair b m n (fin x) (fin y) hx hy = omega arith
with_fair b m n (fin x) inf hx hy = tt
with_fair b m n inf y hx hy = tt

-- the price of entering a vertex
entering_fair : (t : Tech) (view : View) (v w m : ℕ)
    → Fair (base t v w m + (one_if (not (view.guided w) && not (view.taken w)) * t.guide + one_if (view.taken w) * t.short)) (entering t view v w m)
unfolding entering guide_at short_at
entering_fair t view v w m = with_fair _ _ _ _ _ (guide_fair (not (view.guided w)) (view.taken w) t.guide) (penalty_fair (view.taken w) t.short)

-- ---- the overhead

-- an overhead is the price of the steps added and of the segments penalised
Owed : Layer → Overhead → Type 0
Owed line forbidden = Unit
Owed line (owes price laid added penalties) = added * line.wire + penalties * line.area ≡ price

-- what a via move owes for a segment
overhead_fair : (t : Tech) (view : View) (p : Place) → Owed (line_of t p.vertex) (overhead_of t view p.vertex p.segment)
unfolding Owed
overhead_fair t view p =
    overhead_holds t view p.vertex (Owed (line_of t p.vertex)) (omega arith) tt (λ _. omega arith) (λ _ _ _ _. omega arith) p.segment

-- ---- a move

-- a step on a layer
way_same : (l : ℕ) → way_count l l ≡ count l steps 1
unfolding way_count
way_same l = rw (le-ltb l l (le_refl l))

-- a via up
way_up : (l : ℕ) → way_count l (suc l) ≡ count l vias 1
unfolding way_count
way_up l = rw (lt-ltb l (suc l) (omega arith))

-- a via down
way_down : (l : ℕ) → way_count (suc l) l ≡ count l vias 1
unfolding way_count
way_down l = rw (le-ltb (suc l) l (omega arith), lt-ltb l (suc l) (omega arith))

module _ {t : Tech} (tech : GoodTech t) where
  -- the price of a kind on a vertex's layer
  price_at : {v : ℕ} (kind : ℕ) → v < vertices t.grid → kind < kinds
      → get_or (report_prices t) (kinds * layer_of t.grid v + kind) 0 ≡ get_or (count_prices t (line_of t v)) kind 0
  unfolding line_of
  price_at {v} kind h k = prices_at t t.lines _ (layer_of t.grid v) kind (rw tech.lines (vertex_below t.grid h).layer) k

  -- a step or a via costs the wire price or the via price
  way_worth : {v w : ℕ} (m : ℕ) → v < vertices t.grid → entered t.grid v m ≡ at w
      → cost_of t (way_count (layer_of t.grid v) (layer_of t.grid w) ∷ []) ≡ base t v w m
  unfolding base kind_of entered counts_worth
  way_worth {v} {w} zero h e =
      let low = low_enters t.grid h e in
      rw (low.layer, way_same) (omega (arith, price_at {v = w} steps low.lower (omega arith)))
  way_worth {v} {w} (suc zero) h e =
      let high = high_enters t.grid h e in
      rw (← high.layer, way_same) (omega (arith, price_at {v = w} steps high.upper (omega arith)))
  way_worth {v} {w} (suc (suc zero)) h e =
      let down = down_enters t.grid h e in
      rw (down.layer, way_down) (omega (arith, price_at {v = w} vias down.lower (omega arith)))
  way_worth {v} {w} (suc (suc (suc zero))) h e =
      let up = up_enters t.grid h e in
      rw (up.layer, way_up) (omega (arith, price_at {v = v} vias h (omega arith)))
  way_worth {v} {w} (suc (suc (suc (suc m)))) h e = absurd (nowhere e)
    where
      nowhere : outside ≡ at w → ⊥
      nowhere q = let z : ◌≡◌ {A = ℕ} 0 1 = cc in omega arith

  module _ (view : View) where
    -- a move that enters a vertex at its price, and owes what it added and penalised, costs what its
    -- counts do
    made_worth : {v : ℕ} (m : ℕ) (made : Made) → v < vertices t.grid → entered t.grid v m ≡ at made.next.vertex
        → entering t view v made.next.vertex m ≡ fin made.enter
        → made.added * (line_of t v).wire + made.penalties * (line_of t v).area ≡ made.over
        → cost_of t (move_counts t.grid view v made) ≡ price_of made
    unfolding move_counts counts_worth Fair
    made_worth {v} m made h e enters owed =
        let w = made.next.vertex in
        let on = entered_below t.grid m h e in
        let way = way_worth m h e in
        let enter = rw enters at (entering_fair t view v w m) in
        rw (
          price_at {v = v} added_steps h (omega arith),
          price_at {v = v} penalised h (omega arith),
          price_at {v = w} guide_entries on (omega arith),
          price_at {v = w} short_entries on (omega arith),
        )
        (omega (arith, way, enter, owed))

    -- where a move is legal, it costs what its counts do
    Right : (from : ℕ) → Stepped → Type 0
    Right v illegal = Unit
    Right v (legal made) = cost_of t (move_counts t.grid view v made) ≡ price_of made

    module _ (p : Place) (m w n : ℕ) (on : p.vertex < vertices t.grid) (e : entered t.grid p.vertex m ≡ at w)
        (enters : entering t view p.vertex w m ≡ fin n) where
      -- a via move
      leaving-worth : (o : Overhead) → Owed (line_of t p.vertex) o → Right p.vertex (leaving w n o)
      unfolding leaving Right Owed
      leaving-worth forbidden owed = tt
      leaving-worth (owes price laid added penalties) owed = made_worth m _ on e enters owed

      -- a step along the track
      stepping-worth : (r : Grown) → Right p.vertex (stepping w n r)
      unfolding stepping Right
      stepping-worth back = tt
      stepping-worth (grown s) = made_worth m _ on e enters (omega arith)

      -- either
      segment_worth : (k : Kind) → Right p.vertex (by_segment t view p k w n)
      unfolding by_segment
      segment_worth (along d) = stepping-worth _
      segment_worth down = leaving-worth _ (overhead_fair t view p)
      segment_worth up = leaving-worth _ (overhead_fair t view p)

    -- any move
    stepped_worth : (p : Place) (m : ℕ) → p.vertex < vertices t.grid → Right p.vertex (step t view p m)
    unfolding step into if_priced Right
    stepped_worth p m on = by (entered t.grid p.vertex m) refl
      where
        by_price : (w : ℕ) (x : Cost) → entered t.grid p.vertex m ≡ at w → entering t view p.vertex w m ≡ x
            → Right p.vertex (if_priced x (by_segment t view p (kind_of m) w))
        by_price w inf e enters = tt
        by_price w (fin n) e enters = segment_worth p m w n on e enters (kind_of m)

        by_blocked : (w : ℕ) (b : Bool) → entered t.grid p.vertex m ≡ at w
            → Right p.vertex (elim b [ true ↦ illegal | false ↦ if_priced (entering t view p.vertex w m) (by_segment t view p (kind_of m) w) ])
        by_blocked w true e = tt
        by_blocked w false e = by_price w (entering t view p.vertex w m) e refl

        by : (r : Entered) → entered t.grid p.vertex m ≡ r → Right p.vertex (into t view p m r)
        by outside e = tt
        by (at w) e = by_blocked w (view.blocked w) e

    -- the counts of a legal move cost what it does
    pub move_worth : (p : Place) (m : ℕ) {made : Made} → p.vertex < vertices t.grid → step t view p m ≡ legal made
        → cost_of t (move_counts t.grid view p.vertex made) ≡ price_of made
    unfolding Right
    move_worth p m h e = rw e at (stepped_worth p m h)

    -- the place that a legal move leads to is good
    legal_keeps : (p : Place) (m : ℕ) {made : Made} → GoodPlace t p → step t view p m ≡ legal made → GoodPlace t made.next
    unfolding priced
    legal_keeps p m h e = step_keeps view p m tech h (ap priced e)

    -- the counts of moves that are walked cost what they do
    pub walk-worth : (p : Place) (moves : List ℕ) {last : Place} {made : List Made} → GoodPlace t p → walk t view p moves ≡ walked last made
        → cost_of t (walk_counts t.grid view p.vertex made) ≡ walk_cost made
    unfolding walk walk_counts total counts_worth
    walk-worth p [] {made = made} h e = let none : [] ≡ made = cc in rw (← none) refl
    walk-worth p (m ∷ ms) h e =
        let first = walk_first t view p m ms e in
        let rest = walk-worth first.made.next ms (legal_keeps p m h first.is) first.goes in
        let move = move_worth p m h.vertex first.is in
        rw (first.parts, counts_worth_append) (omega (arith, move, rest))

    -- the vertices that they enter are of the grid
    pub walk_inside : (p : Place) (moves : List ℕ) {last : Place} {made : List Made} → GoodPlace t p → walk t view p moves ≡ walked last made
        → All (λ m. m.next.vertex < vertices t.grid) made
    unfolding walk All
    walk_inside p [] {made = made} h e = let none : [] ≡ made = cc in rw (← none) tt
    walk_inside p (m ∷ ms) h e =
        let first = walk_first t view p m ms e in
        let next = legal_keeps p m h first.is in
        rw first.parts (next.vertex, walk_inside first.made.next ms next first.goes)
