-- What a move lays: clear vertices of the grid.
--     all_append               a claim about two lists, one after the other
--     Free                     a clear vertex of the grid
--     run_free, step_free      every vertex of a run beyond one is, and every vertex that a move lays
use Prim.Native.Nat.{ℕ, zero, suc, ◌<◌}
use mathlib.Core.Path.{◌≡◌, refl}
use mathlib.Core.List.{List, [], ◌∷◌, ◌++◌}
use mathlib.Core.Bool.{Bool, true, false}
use Rattle.job.specs.Lists.{All}
use Rattle.job.specs.Grid.{Grid, vertices}
use Rattle.paths.specs.Costs.{Cost, fin, inf}
use Rattle.rules.specs.Tracks.{Entered, outside, at, entered}
use Rattle.rules.specs.Views.{View}
use Rattle.rules.specs.Segments.{Direction, opposite, Kind, along, down, up, kind_of, Segment, Place, Grown, back, grown}
use Rattle.rules.specs.Prices.{Tech, entering}
use Rattle.rules.specs.Overheads.{clear, toward, on_from, clear_run, first_of, both_ends, Overhead, forbidden, owes, overhead_of}
use Rattle.rules.specs.Steps.{Made, Stepped, illegal, legal, leaving, stepping, by_segment, if_priced, into, step}
use Rattle.rules.proofs.Neighbours.{entered_below}
use Rattle.rules.proofs.Overheads.{overhead_holds}
use Rattle.rules.proofs.Firsts.{first_below}

-- a claim about two lists, one after the other
pub all_append : {A : Type 0} (P : A → Type 0) (xs ys : List A) → All P xs → All P ys → All P (xs ++ ys)
unfolding All
all_append P [] ys h k = k
all_append P (x ∷ xs) ys h k = (h.0, all_append P xs ys h.1 k)

-- a clear vertex of the grid
pub record Free (g : Grid) (view : View) (v : ℕ) : Type 0 where
  pub on_grid : v < vertices g
  pub free : clear view v ≡ true

-- every vertex of a run beyond a vertex of the grid
run_free : (g : Grid) (view : View) (d : Direction) (k : ℕ) {v : ℕ} → v < vertices g → All (Free g view) (clear_run g view d k v)
unfolding clear_run All on_from
run_free g view d zero h = tt
run_free g view d (suc k) {v} h = by (entered g v (toward d)) refl (λ w on. run_free g view d k on)
  where
    by : (r : Entered) → entered g v (toward d) ≡ r → ((w : ℕ) → w < vertices g → All (Free g view) (clear_run g view d k w))
        → All (Free g view) (on_from view (clear_run g view d k) r)
    by outside e rest = tt
    by (at w) e rest = clearly (clear view w) refl
      where
        on : w < vertices g
        on = entered_below g (toward d) h e

        clearly : (b : Bool) → clear view w ≡ b → All (Free g view) (elim b [ true ↦ w ∷ clear_run g view d k w | false ↦ [] ])
        clearly true is = (record { on_grid = on; free = is }, rest w on)
        clearly false is = tt

-- every vertex of the runs beyond both ends
ends_free : (g : Grid) (view : View) (d : Direction) (k n : ℕ) {v : ℕ} → v < vertices g → All (Free g view) (both_ends g view d k v (first_of g d n v))
unfolding both_ends
ends_free g view d k n h = all_append (Free g view) _ _ (run_free g view d k h) (run_free g view (opposite d) _ (first_below g d n h))

-- what an overhead lays
laid_by : Overhead → List ℕ
laid_by forbidden = []
laid_by (owes price laid added penalties) = laid

-- what a move lays
laid_in : Stepped → List ℕ
laid_in illegal = []
laid_in (legal made) = made.laid

module _ (t : Tech) (view : View) where
  abbrev AllFree : List ℕ → Type 0
  AllFree vs = All (Free t.grid view) vs

  -- what a via move owes for a segment
  overhead_free : {v : ℕ} (s : Segment) → v < vertices t.grid → AllFree (laid_by (overhead_of t view v s))
  unfolding laid_by All
  overhead_free {v} s h = overhead_holds t view v (λ o. AllFree (laid_by o)) tt tt (λ _. tt) (λ d n missing few. ends_free t.grid view d missing n h) s

  -- a via move lays what its overhead does
  leaving_free : (w enter : ℕ) (o : Overhead) → AllFree (laid_by o) → AllFree (laid_in (leaving w enter o))
  unfolding leaving laid_by laid_in All
  leaving_free w enter forbidden h = h
  leaving_free w enter (owes price laid added penalties) h = h

  -- a step lays nothing
  stepping_free : (w enter : ℕ) (r : Grown) → AllFree (laid_in (stepping w enter r))
  unfolding stepping laid_in All
  stepping_free w enter back = tt
  stepping_free w enter (grown s) = tt

  -- any move
  segment_free : (p : Place) (k : Kind) (w enter : ℕ) → p.vertex < vertices t.grid → AllFree (laid_in (by_segment t view p k w enter))
  unfolding by_segment
  segment_free p (along d) w enter h = stepping_free w enter _
  segment_free p down w enter h = leaving_free w enter _ (overhead_free p.segment h)
  segment_free p up w enter h = leaving_free w enter _ (overhead_free p.segment h)

  -- every vertex that a move lays is a clear vertex of the grid
  stepped_free : (p : Place) (m : ℕ) → p.vertex < vertices t.grid → AllFree (laid_in (step t view p m))
  unfolding step into if_priced laid_in All
  stepped_free p m h = by (entered t.grid p.vertex m)
    where
      by_price : (w : ℕ) (x : Cost) → AllFree (laid_in (if_priced x (by_segment t view p (kind_of m) w)))
      by_price w inf = tt
      by_price w (fin n) = segment_free p (kind_of m) w n h

      by_blocked : (w : ℕ) (b : Bool)
          → AllFree (laid_in (elim b [ true ↦ illegal | false ↦ if_priced (entering t view p.vertex w m) (by_segment t view p (kind_of m) w) ]))
      by_blocked w true = tt
      by_blocked w false = by_price w (entering t view p.vertex w m)

      by : (r : Entered) → AllFree (laid_in (into t view p m r))
      by outside = tt
      by (at w) = by_blocked w (view.blocked w)

  -- of a legal move
  pub step_free : (p : Place) (m : ℕ) {made : Made} → p.vertex < vertices t.grid → step t view p m ≡ legal made → AllFree made.laid
  unfolding laid_in
  step_free p m h e = rw e at (stepped_free p m h)
