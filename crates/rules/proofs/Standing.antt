-- The tree and the unjoined pins are apart in every standing.
--     begun_metal                  a net begins with the metal that stands
--     fails                        a test that fails, as an equation
--     begun_apart                  before the first join of a net
--     nets_apart                   of every net of a good job
--     distinct_both                vertices of two lists that are distinct
--     all_at                       what holds of every element holds of the k-th
--     joined_apart                 after a join
use Prim.Native.Nat.{ℕ, zero, suc, ◌<◌}
use mathlib.Core.Path.{◌≡◌, refl, sym, ◌∙◌}
use mathlib.Core.Logic.{◌⊎◌, inl, inr}
use mathlib.Core.List.{List, [], ◌∷◌, ◌++◌, map}
use mathlib.Core.Bool.{Bool, true, false, not}
use native.Mathlib.Nat.{not-suc-le-zero, le_of_suc-le-suc}
use lib.ListN.{length, get_or}
use lib.Dec.{T, eqb}
use borrow.Author.Tests.{ne_eqb}
use Rattle.job.specs.Lists.{any, All}
use Rattle.job.specs.Grid.{Grid, Vertex, vertices, vertex_number, inside, same}
use Rattle.job.specs.Job.{Obstacle, Net, Job}
use Rattle.job.specs.Good.{GoodPin, GoodNet, Distinct, all_pins, GoodJob}
use Rattle.job.proofs.Tests.{nor_holds}
use Rattle.job.proofs.Grids.{number_below, number_inj, same_refl}
use Rattle.rules.specs.Views.{View, member, pins_of}
use Rattle.rules.specs.Segments.{Place}
use Rattle.rules.specs.Prices.{Tech, tech_of}
use Rattle.rules.specs.Steps.{Made}
use Rattle.rules.specs.Walks.{start_at, Route, walked, walk, vertices_of}
use Rattle.rules.specs.Standings.{Standing, begun, without, joined_by}
use Rattle.rules.specs.Apart.{Stands}
use Rattle.rules.specs.Places.{GoodTech}
use Rattle.rules.proofs.Members.{not_both, neither, member_none, member_here, member-append, member_all, without_one, without_less}
use Rattle.rules.proofs.Walks.{Passed, Walks, route_walk}

-- ---- before the first join

-- a net begins with the metal that stands
pub begun_metal : (ps : List ℕ) (metal : List (List ℕ)) → (begun ps metal).metal ≡ metal
unfolding begun
begun_metal [] metal = refl
begun_metal (p ∷ ps) metal = refl

-- a test that fails, as an equation
pub fails : (b : Bool) → T (not b) → b ≡ false
fails true h = absurd h
fails false h = refl

-- a vertex that is none of some has a number that is none of theirs
number_apart : (g : Grid) (obstacles : List Obstacle) (p : Vertex) (ps : List Vertex) → T (inside g p) → All (GoodPin g obstacles) ps
    → T (not (any (same p) ps)) → member (vertex_number g p) (map (vertex_number g) ps) ≡ false
unfolding member any All
number_apart g obstacles p [] on good h = refl
number_apart g obstacles p (q ∷ ps) on good h =
    let (differ, rest) = (nor_holds (same p q) (any (same p) ps)).0 h in
    neither (eqb (vertex_number g p) (vertex_number g q)) (member (vertex_number g p) (map (vertex_number g) ps))
    (ne_eqb _ _ (λ e. not_both {b = same p q} (rw (number_inj g p q on good.0.inside e) (same_refl q)) (fails (same p q) differ)))
    (number_apart g obstacles p ps on good.1 rest)

-- the pins of a net that are distinct, on the grid
begun_pins : (j : Job) (pins : List Vertex) (metal : List (List ℕ)) → All (GoodPin j.grid j.obstacles) pins → Distinct pins
    → Stands (tech_of j) (begun (map (vertex_number j.grid) pins) metal)
unfolding begun tech_of All Distinct
begun_pins j [] metal good h = record { on_grid = λ v e. absurd (member_none v e); no_goal = λ v e. absurd (member_none v e) }
begun_pins j (p ∷ ps) metal good h =
    let g = j.grid in
    record {
      on_grid = λ v e. rw (member_here v (vertex_number g p) e) (number_below g p good.0.inside);
      no_goal = λ v e. rw (member_here v (vertex_number g p) e) (number_apart g j.obstacles p ps good.0.inside good.1 h.0);
    }

-- a good net whose pins are distinct
pub begun_apart : (j : Job) {net : Net} (metal : List (List ℕ)) → GoodNet j.grid j.obstacles net → Distinct net.pins
    → Stands (tech_of j) (begun (pins_of j.grid net) metal)
unfolding pins_of
begun_apart j {net} metal good h = begun_pins j net.pins metal good.good_pins h

-- a vertex that is none of two lists is none of the first
none_first : (v : Vertex) (xs ys : List Vertex) → T (not (any (same v) (xs ++ ys))) → T (not (any (same v) xs))
unfolding any
none_first v [] ys h = tt
none_first v (x ∷ xs) ys h =
    let (differ, rest) = (nor_holds (same v x) (any (same v) (xs ++ ys))).0 h in
    (nor_holds (same v x) (any (same v) xs)).1 (differ, none_first v xs ys rest)

-- where the vertices of two lists are distinct, those of each are
pub distinct_both : (xs ys : List Vertex) → Distinct (xs ++ ys) → Distinct xs × Distinct ys
unfolding Distinct
distinct_both [] ys h = (tt, h)
distinct_both (x ∷ xs) ys h = let (left, right) = distinct_both xs ys h.1 in ((none_first x xs ys h.0, left), right)

-- what a net must satisfy so that it begins apart
Begins : Job → Net → Type 0
Begins j net = (metal : List (List ℕ)) → Stands (tech_of j) (begun (pins_of j.grid net) metal)

-- good nets whose pins are distinct
nets_begin : (j : Job) (nets : List Net) → All (GoodNet j.grid j.obstacles) nets → Distinct (all_pins nets) → All (Begins j) nets
unfolding All all_pins Begins
nets_begin j [] good h = tt
nets_begin j (net ∷ nets) good h =
    let (this, rest) = distinct_both net.pins (all_pins nets) h in
    (λ metal. begun_apart j metal good.0 this, nets_begin j nets good.1 rest)

-- every net of a good job
pub nets_apart : {j : Job} → GoodJob j → All (λ net. (metal : List (List ℕ)) → Stands (tech_of j) (begun (pins_of j.grid net) metal)) j.nets
unfolding Begins
nets_apart {j} good = nets_begin j j.nets good.good_nets good.distinct_pins

-- what holds of every element holds of the k-th
pub all_at : {A : Type 0} (P : A → Type 0) (xs : List A) (k : ℕ) (d : A) → All P xs → k < length xs → P (get_or xs k d)
unfolding All
all_at P [] k d h on = absurd (not-suc-le-zero on)
all_at P (x ∷ xs) zero d h on = h.0
all_at P (x ∷ xs) (suc k) d h on = all_at P xs k d h.1 (le_of_suc-le-suc on)

-- ---- after a join

-- the walk of a route keeps them apart
walk_apart : {t : Tech} {view : View} {p : Place} {ms : List ℕ} {c : ℕ} (k : ℕ) (s : Standing) → Stands t s → (w : Walks t view s.unjoined p ms c)
    → Stands t (joined_by k s w.last.vertex w.made)
unfolding joined_by
walk_apart {t} {view} k s apart w = record { on_grid = on_grid; no_goal = no_goal }
  where
    end : ℕ
    end = w.last.vertex

    on_grid : (v : ℕ) → member v (s.tree ++ vertices_of w.made) ≡ true → v < vertices t.grid
    on_grid v e = by (member-append v s.tree (vertices_of w.made) e)
      where
        by : (member v s.tree ≡ true) ⊎ (member v (vertices_of w.made) ≡ true) → v < vertices t.grid
        by (inl h) = apart.on_grid v h
        by (inr h) = (member_all (Passed t.grid view) v (vertices_of w.made) w.on_grid h).on_grid

    entered : (v : ℕ) → (member v w.way ≡ true) ⊎ (member v (end ∷ []) ≡ true) → member v (without end s.unjoined) ≡ false
    entered v (inl h) = without_less v end s.unjoined (member_all (λ x. member x s.unjoined ≡ false) v w.way w.passes h)
    entered v (inr h) = rw (member_here v end h) (without_one end s.unjoined)

    no_goal : (v : ℕ) → member v (s.tree ++ vertices_of w.made) ≡ true → member v (without end s.unjoined) ≡ false
    no_goal v e = by (member-append v s.tree (vertices_of w.made) e)
      where
        by : (member v s.tree ≡ true) ⊎ (member v (vertices_of w.made) ≡ true) → member v (without end s.unjoined) ≡ false
        by (inl h) = without_less v end s.unjoined (apart.no_goal v h)
        by (inr h) = entered v (member-append v w.way (end ∷ []) (rw w.enters at h))

-- after a join that is a route they are apart
pub joined_apart : {t : Tech} {view : View} {start c : ℕ} {ms : List ℕ} {last : Place} {made : List Made} (k : ℕ) (s : Standing) → GoodTech t → Stands t s
    → Route t view s.tree s.unjoined start ms c → walk t view (start_at start) ms ≡ walked last made → Stands t (joined_by k s last.vertex made)
joined_apart {t} {view} {start} {last = last} {made = made} k s good apart r e =
    let w = route_walk good view (apart.on_grid start r.on_tree) r in
    let is : walked w.last w.made ≡ walked last made = sym w.does ∙ e in
    let place : w.last ≡ last = cc in
    let all : w.made ≡ made = cc in
    rw (place, all) at (walk_apart k s apart w)
