-- Reading a join after its flag: good exactly where the join's bits stand there and it is legal.
--     join_fields, join_bits      the fields of a start with its count; the bits of a join after its flag
--     length_join, join_placed    how many bits; they stand there where their parts do
--     JoinAt, join_good           a join that is read as good
--     legal_walk                  the walk of a legal join ends at an unjoined pin and costs what is recorded
--     read_of, join_read          a legal join is read as good
use Prim.Native.Nat.{ℕ, ◌+◌, ◌*◌, ◌<◌}
use native.Mathlib.Omega.{arith}
use mathlib.Core.Path.{◌≡◌, refl, sym, ◌∙◌}
use mathlib.Core.Logic.Iff
use mathlib.Core.Logic.{◌↔◌}
use mathlib.Core.List.{List, [], ◌∷◌, ◌++◌, flat_map}
use mathlib.Core.Bool.{Bool, true, false}
use lib.ListN.{length, length-append}
use lib.Dec.{T, lit<}
use Rattle.bits.specs.Bits.{field, whole, field_bits, group_bits}
use Rattle.bits.specs.Puts.{AllBelow}
use Rattle.bits.proofs.Laws.{length-field_bits}
use Rattle.job.specs.Grid.{Grid, vertices, vertex_number}
use Rattle.job.specs.Job.{Job}
use Rattle.job.specs.Good.{GoodJob}
use Rattle.job.specs.Reading.{good, vertex_at}
use Rattle.job.proofs.Tests.{tests}
use Rattle.job.proofs.Binds.{steps}
use Rattle.job.proofs.Grids.{below, below_inside}
use Rattle.job.proofs.TwoWay.Places.{Placed, Fits, FieldsAt, widths, length-group_bits, placed-append, group-placed}
use Rattle.job.proofs.TwoWay.Widths.{concat_bits}
use Rattle.job.proofs.TwoWay.Groups.{inside_fits}
use Rattle.rules.specs.Tracks.{layer_of, row_of, column_of, vertex_by}
use Rattle.rules.specs.Views.{member, view_of}
use Rattle.rules.specs.Prices.{tech_of}
use Rattle.rules.specs.Walks.{walked, start_at, walk_cost}
use Rattle.rules.specs.Standings.{Standing, joined_by}
use Rattle.rules.specs.Apart.{Stands}
use Rattle.rules.proofs.Vertices.{number_vertex, vertex_number_lem, vertex_below}
use Rattle.rules.proofs.Techs.{good_tech}
use Rattle.rules.proofs.Walks.{route_walk}
use Rattle.plan.specs.Reading.{JoinRead, read_join}
use Rattle.plan.specs.Legal.{LegalJoin}
use Rattle.plan.proofs.Moves.{field-placed, moves_good, route_some, route_read}

-- ---- its bits

-- the fields of a start with its count
abbrev pub join_fields : Grid → (start : ℕ) → (moves : List ℕ) → List (ℕ × ℕ)
join_fields g start moves = (3, layer_of g start) ∷ (8, row_of g start) ∷ (8, column_of g start) ∷ (20, length moves) ∷ []

-- the bits of a join after its flag
unfoldable pub join_bits : Grid → (start : ℕ) → (moves : List ℕ) → (cost : ℕ) → List ℕ
join_bits g start moves cost = group_bits (join_fields g start moves) ++ (flat_map (field_bits 2) moves ++ field_bits 40 cost)

-- a start with its count takes 39 bits
start_bits : (g : Grid) (start : ℕ) (moves : List ℕ) → length (group_bits (join_fields g start moves)) ≡ 39
unfolding widths
start_bits g start moves = length-group_bits _

-- the bits that a join takes
pub length_join : (g : Grid) (start : ℕ) (moves : List ℕ) (cost : ℕ) → length (join_bits g start moves cost) ≡ 39 + 2 * length moves + 40
unfolding join_bits
length_join g start moves cost =
    simp (length-append, start_bits, concat_bits (field_bits 2) 2 (length-field_bits 2), length-field_bits) (omega arith)

-- they stand there where those of its start with its count, its moves and its cost do
join_placed : (B : List ℕ) (at : ℕ) (g : Grid) (start : ℕ) (moves : List ℕ) (cost : ℕ)
    → Placed B at (join_bits g start moves cost)
    ↔ (Placed B at (group_bits (join_fields g start moves))
    × (Placed B (at + 39) (flat_map (field_bits 2) moves) × Placed B (at + 39 + 2 * length moves) (field_bits 40 cost)))
unfolding join_bits
join_placed B at g start moves cost = simp (placed-append, start_bits, concat_bits (field_bits 2) 2 (length-field_bits 2)) Iff.rfl

-- a test that holds, as an equation
holds : (b : Bool) → T b → b ≡ true
holds true h = refl
holds false h = absurd h

-- the fields of a start hold the vertex that is read
start_vertex : (B : List ℕ) (at : ℕ) (g : Grid) (start : ℕ) (moves : List ℕ) → FieldsAt B at (join_fields g start moves)
    → vertex_at B at ≡ vertex_by g start
unfolding vertex_at
start_vertex B at g start moves h = λ i. record { layer = h.0 i; row = h.1.0 i; column = h.1.1.0 i }

-- ---- the law

-- a join that was read: its bits stand there, it is legal, and the next bit is the one behind it
pub record JoinAt (B : List ℕ) (j : Job) (k : ℕ) (s : Standing) (at : ℕ) (read : JoinRead) : Type 0 where
  pub stand : Placed B at (join_bits j.grid read.start read.moved.moves (walk_cost read.moved.made))
  pub legal : LegalJoin j k s read.start read.moved.moves (walk_cost read.moved.made) (joined_by k s read.moved.last.vertex read.moved.made)
  pub next : read.next ≡ at + length (join_bits j.grid read.start read.moved.moves (walk_cost read.moved.made))

module _ (B : List ℕ) (bits : AllBelow 2 B) (j : Job) (k : ℕ) (s : Standing) where
  -- a start with its count stands there and fits, where it is whole and its fields hold its numbers
  start_placed : (at start : ℕ) (moves : List ℕ)
      → (Placed B at (group_bits (join_fields j.grid start moves)) × Fits (join_fields j.grid start moves))
      ↔ (T (whole B at 39) × FieldsAt B at (join_fields j.grid start moves))
  unfolding widths
  start_placed at start moves = group-placed B at bits (join_fields j.grid start moves) (lit< tt)

  -- a join that is read as good
  pub join_good : (at : ℕ) (read : JoinRead) → read_join B j k s at ≡ good read → JoinAt B j k s at read
  unfolding read_join vertex_at
  join_good at read =
      simp (steps, tests) (λ (w, ((in-grid, on-tree), (some, (moved, reads, (w40, (costs, same)))))).
      let g = j.grid in
      let v = vertex_at B at in
      let start = vertex_number g v in
      let n = field B (at + 19) 20 in
      let m = moves_good B bits (tech_of j) (view_of j k s.metal) s.unjoined n (at + 39) (start_at start) moved reads in
      let number : vertex_by g start ≡ v = vertex_number_lem g v (below g v in-grid) in
      let layer : field B at 3 ≡ layer_of g start = λ i. (sym number i).layer in
      let row : field B (at + 3) 8 ≡ row_of g start = λ i. (sym number i).row in
      let column : field B (at + 11) 8 ≡ column_of g start = λ i. (sym number i).column in
      let count : length moved.moves ≡ n = m.count in
      let head = (start_placed at start moved.moves).1 (w, (layer, (row, (column, (sym count, tt))))) in
      let cost = (field-placed B (at + 39 + 2 * n) bits 40 (walk_cost moved.made) (omega arith)).1 (w40, costs) in
      let size = length_join g start moved.moves (walk_cost moved.made) in
      rw (← same) (record {
        stand = (join_placed B at g start moved.moves (walk_cost moved.made)).1 (head.0, (m.stand, rw count cost.0));
        legal = record {
          route = record { on_tree = holds _ on-tree; walks = m.route some };
          count = head.1.1.1.1.0;
          priced = cost.1;
          last = moved.last;
          made = moved.made;
          walked = m.walks;
          stands = refl;
        };
        next = omega arith;
      }))

-- what is read of a legal join
abbrev pub read_of : {j : Job} {k : ℕ} {s : Standing} (at : ℕ) {start cost : ℕ} {moves : List ℕ} {next : Standing}
    → LegalJoin j k s start moves cost next → JoinRead
read_of {j} at {start} {cost} {moves} l =
    record {
      start = start;
      moved = record { moves = moves; last = l.last; made = l.made };
      next = at + length (join_bits j.grid start moves cost);
    }

module _ {j : Job} (good-j : GoodJob j) (k : ℕ) (s : Standing) (apart : Stands (tech_of j) s) where
  -- a legal join starts at a vertex of the grid
  legal_start : {start cost : ℕ} {moves : List ℕ} {next : Standing} → LegalJoin j k s start moves cost next → start < vertices j.grid
  unfolding tech_of
  legal_start {start} l = apart.on_grid start l.route.on_tree

  -- the walk of a legal join ends at an unjoined pin, and costs what is recorded
  pub legal_walk : {start cost : ℕ} {moves : List ℕ} {next : Standing} (l : LegalJoin j k s start moves cost next)
      → (member l.last.vertex s.unjoined ≡ true) × (walk_cost l.made ≡ cost)
  legal_walk {start} l =
      let w = route_walk (good_tech good-j) (view_of j k s.metal) (apart.on_grid start l.route.on_tree) l.route in
      let is : walked w.last w.made ≡ walked l.last l.made = sym w.does ∙ l.walked in
      let place : w.last ≡ l.last = cc in
      let all : w.made ≡ l.made = cc in
      (rw place at w.ends, rw all at w.cost)

  -- a legal join is read as good
  pub join_read : (B : List ℕ) → AllBelow 2 B → (at : ℕ) {start cost : ℕ} {moves : List ℕ} {next : Standing} (l : LegalJoin j k s start moves cost next)
      → Placed B at (join_bits j.grid start moves cost) → read_join B j k s at ≡ good (read_of at l)
  unfolding read_join
  join_read B bits at {start} {cost} {moves} l stand =
      let g = j.grid in
      let on = legal_start l in
      let in-grid = below_inside g (vertex_by g start) (vertex_below g on) in
      let (_, costs) = legal_walk l in
      let parts = (join_placed B at g start moves cost).0 stand in
      let fits = inside_fits g good-j.grid (vertex_by g start) in-grid in
      let head = (start_placed B bits j k s at start moves).0 (parts.0, (fits.0, (fits.1.0, (fits.1.1.0, (l.count, tt))))) in
      let vertex : vertex_at B at ≡ vertex_by g start = start_vertex B at g start moves head.1 in
      let count : field B (at + 19) 20 ≡ length moves = head.1.1.1.1.0 in
      let number : vertex_number g (vertex_by g start) ≡ start = number_vertex g start in
      let last = (field-placed B (at + 39 + 2 * length moves) bits 40 cost (omega arith)).0 (parts.1.1, l.priced) in
      let reads = route_read B bits (tech_of j) (view_of j k s.metal) s.unjoined l.route.walks (at + 39) parts.1.0 l.walked in
      let some = route_some B bits (tech_of j) (view_of j k s.metal) s.unjoined l.route.walks in
      let end : at + 39 + 2 * length moves + 40 ≡ at + length (join_bits g start moves cost) = omega (arith, length_join g start moves cost) in
      simp (steps, tests)
      (rw (vertex, number, count) (
        head.0,
        (
          (in-grid, rw l.route.on_tree tt),
          (
            some,
            (
              record { moves = moves; last = l.last; made = l.made },
              reads,
              (last.0, (rw costs last.1, λ i. record { start = start; moved = record { moves = moves; last = l.last; made = l.made }; next = end i })),
            ),
          ),
        ),
      ))
