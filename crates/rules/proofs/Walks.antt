-- What a route does when its moves are walked.
--     Legal, step_legal    a legal move, with all that it did
--     Passed               a vertex of the grid that is not blocked
--     walk_on_lem          a walk by its first move and the rest
--     First, walk_first    a walk taken apart after its first move
--     Walks, route_walk    the walk of a route: its end, its cost, the vertices entered and the vertices laid
use Prim.Native.Nat.{ℕ, ◌<◌}
use mathlib.Core.Path.{◌≡◌, refl, ◌∙◌}
use mathlib.Core.List.{List, [], ◌∷◌, ◌++◌, flat_map}
use mathlib.Core.Bool.{true, false}
use native.Mathlib.Nat.{add-zero}
use native.Mathlib.Omega.{arith}
use Rattle.job.specs.Lists.{All}
use Rattle.job.specs.Grid.{Grid, vertices}
use Rattle.paths.specs.Systems.{to}
use Rattle.paths.specs.Rivals.{Route as RouteFrom}
use Rattle.rules.specs.Views.{View, member}
use Rattle.rules.specs.Segments.{kind_of, Place}
use Rattle.rules.specs.Prices.{Tech}
use Rattle.rules.specs.Steps.{Made, Stepped, illegal, legal, step, price_of, priced}
use Rattle.rules.specs.Walks.{system, start_at, Route, Walked, stuck, walked, after, go_on, walk, vertices_of, laid_of, total, walk_cost}
use Rattle.rules.specs.Places.{GoodPlace, GoodTech}
use Rattle.rules.proofs.Places.{start_good}
use Rattle.rules.proofs.Segments.{no_step, move_led}
use Rattle.rules.proofs.Moves.{step_parts, step_keeps}
use Rattle.rules.proofs.Laid.{Free, all_append, step_free}

-- ---- one move

-- a legal move, with all that it did
record Legal (s : Stepped) (c : ℕ) (q : Place) : Type 0 where
  pub made : Made
  pub is : s ≡ legal made
  pub cost : price_of made ≡ c
  pub next : made.next ≡ q

-- a move that has a price is legal
step_legal : (s : Stepped) {c : ℕ} {q : Place} → priced s ≡ to c q → Legal s c q
unfolding priced
step_legal illegal e = absurd (no_step e)
step_legal (legal made) e = record { made = made; is = refl; cost = cc; next = cc }

-- a vertex of the grid that is not blocked
pub record Passed (g : Grid) (view : View) (v : ℕ) : Type 0 where
  pub on_grid : v < vertices g
  pub unblocked : view.blocked v ≡ false

-- the vertex that a legal move enters
step_passed : {t : Tech} (view : View) (p : Place) (m : ℕ) {c : ℕ} {q : Place} → GoodTech t → GoodPlace t p → priced (step t view p m) ≡ to c q
    → Passed t.grid view q.vertex
step_passed {t} view p m {q = q} good h e =
    let went = step_parts t view p m e in
    let l = move_led view p (kind_of m) went.vertex went.enter good h.vertex went.does in
    record { on_grid = (step_keeps view p m good h e).vertex; unblocked = rw l.vertex went.free }

-- a legal move, then the rest
pub walk_on_lem : (t : Tech) (view : View) (p : Place) (m : ℕ) (ms : List ℕ) (made : Made) {last : Place} {others : List Made} → step t view p m ≡ legal made
    → walk t view made.next ms ≡ walked last others → walk t view p (m ∷ ms) ≡ walked last (made ∷ others)
unfolding walk go_on after
walk_on_lem t view p m ms made is rest = rw (is, rest)

-- a walk after its first move
pub record First (t : Tech) (view : View) (p : Place) (m : ℕ) (ms : List ℕ) (last : Place) (all : List Made) : Type 0 where
  pub made : Made
  pub rest : List Made
  pub is : step t view p m ≡ legal made
  pub goes : walk t view made.next ms ≡ walked last rest
  pub parts : all ≡ made ∷ rest

-- a walk taken apart
pub walk_first : (t : Tech) (view : View) (p : Place) (m : ℕ) (ms : List ℕ) {last : Place} {all : List Made} → walk t view p (m ∷ ms) ≡ walked last all
    → First t view p m ms last all
unfolding walk go_on after
walk_first t view p m ms {last} {all} e = by (step t view p m) refl e
  where
    not_stuck : stuck ≡ walked last all → ⊥
    not_stuck h = let z : ◌≡◌ {A = ℕ} 0 1 = cc in omega arith

    on : (made : Made) → step t view p m ≡ legal made → (w : Walked) → walk t view made.next ms ≡ w → after made w ≡ walked last all
        → First t view p m ms last all
    on made is stuck goes h = absurd (not_stuck h)
    on made is (walked l s) goes h =
        let same : l ≡ last = cc in
        record { made = made; rest = s; is = is; goes = rw same at goes; parts = cc }

    by : (s : Stepped) → step t view p m ≡ s → go_on (λ q. walk t view q ms) s ≡ walked last all → First t view p m ms last all
    by illegal is h = absurd (not_stuck h)
    by (legal made) is h = on made is (walk t view made.next ms) refl h

-- ---- all moves

-- the walk of a route of this cost from a place: it ends at an unjoined pin, and enters none on its way
pub record Walks (t : Tech) (view : View) (unjoined : List ℕ) (p : Place) (moves : List ℕ) (c : ℕ) : Type 0 where
  pub last : Place
  pub made : List Made
  pub does : walk t view p moves ≡ walked last made
  pub cost : walk_cost made ≡ c
  pub ends : member last.vertex unjoined ≡ true
  pub way : List ℕ
  pub enters : vertices_of made ≡ way ++ (last.vertex ∷ [])
  pub passes : All (λ v. member v unjoined ≡ false) way
  pub on_grid : All (Passed t.grid view) (vertices_of made)
  pub laid : All (Free t.grid view) (laid_of made)

module _ {t : Tech} (good : GoodTech t) (view : View) {unjoined : List ℕ} where
  -- from a good place
  place_walk : {p : Place} {ms : List ℕ} {c : ℕ} → GoodPlace t p → RouteFrom (system t view unjoined) p ms c → Walks t view unjoined p ms c
  unfolding walk flat_map total All
  place_walk ok (RouteFrom.enters {s = p} {t = q} {m = m} {p = price} move goal) =
      let leads = move.leads in
      let l = step_legal (step t view p m) leads in
      record {
        last = l.made.next;
        made = l.made ∷ [];
        does = walk_on_lem t view p m [] l.made l.is refl;
        cost = add-zero _ ∙ l.cost;
        ends = rw l.next goal;
        way = [];
        enters = refl;
        passes = tt;
        on_grid = (rw l.next (step_passed view p m good ok leads), tt);
        laid = all_append (Free t.grid view) l.made.laid [] (step_free t view p m ok.vertex l.is) tt;
      }
  place_walk ok (RouteFrom.walks {s = p} {t = q} {m = m} {p = price} {c = c} {ms = ms} move no_goal_lem r) =
      let leads = move.leads in
      let l = step_legal (step t view p m) leads in
      let rest = place_walk (step_keeps view p m good ok leads) r in
      record {
        last = rest.last;
        made = l.made ∷ rest.made;
        does = walk_on_lem t view p m ms l.made l.is (rw l.next rest.does);
        cost = rw (l.cost, rest.cost);
        ends = rest.ends;
        way = q.vertex ∷ rest.way;
        enters = rw (l.next, rest.enters);
        passes = (no_goal_lem, rest.passes);
        on_grid = (rw l.next (step_passed view p m good ok leads), rest.on_grid);
        laid = all_append (Free t.grid view) l.made.laid (laid_of rest.made) (step_free t view p m ok.vertex l.is) rest.laid;
      }

  -- from a vertex of the tree
  pub route_walk : {tree : List ℕ} {s c : ℕ} {ms : List ℕ} → s < vertices t.grid → Route t view tree unjoined s ms c
      → Walks t view unjoined (start_at s) ms c
  route_walk on r = place_walk (start_good on) r.walks
