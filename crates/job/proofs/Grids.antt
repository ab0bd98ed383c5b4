-- Laws of the grid.
--     below, below_inside           a vertex inside is one below the sizes
--     same_eq, same_refl            the test for the same vertex passes at equal vertices alone
--     below_number, number_below    a vertex number is below the number of vertices
--     number_inj                    it says its vertex
--     next_layer, number_next       a step high keeps the layer and adds the stride
--     room_high, all_inside         a run is inside where its first vertex is and the track has room
use Prim.Native.Nat.{ℕ, zero, suc, ◌+◌, ◌-◌, ◌*◌, ◌/◌, ◌%◌, ◌≤◌, ◌<◌}
use mathlib.Core.Path.{◌≡◌, refl, sym, ap, ◌∙◌}
use mathlib.Core.Bool.{Bool, true, false, ◌&&◌, cond, and-true}
use native.Mathlib.Nat.{lt_of_not-le}
use native.Mathlib.Decide.{dec_le, dec_lt}
use native.Mathlib.Omega.{arith}
use lib.Dec.{T, leb, ltb, eqb, ltb→lt, eqb→eq}
use lib.Arith.{digits_lt, digits_div, digits_mod}
use borrow.Author.Tests.{lt-ltb, le-ltb, le-leb, lt-leb, eq-eqb}
use Rattle.job.specs.Lists.{all}
use Rattle.job.specs.Grid.{Grid, Vertex, vertices, vertex_number, inside, same, steps_column, next_high, run_high, stride_of}
use Rattle.job.proofs.Tests.{and_holds, tests}

-- ---- inside

-- a vertex below the grid's sizes
pub record Below (g : Grid) (v : Vertex) : Type 0 where
  pub layer : v.layer < g.layers
  pub row : v.row < g.rows
  pub column : v.column < g.columns

-- a vertex inside is below the sizes
pub below : (g : Grid) (v : Vertex) → T (inside g v) → Below g v
unfolding inside
below g v h =
    let outer = (and_holds (ltb v.layer g.layers) (ltb v.row g.rows && ltb v.column g.columns)).0 h in
    let inner = (and_holds (ltb v.row g.rows) (ltb v.column g.columns)).0 outer.1 in
    record { layer = ltb→lt _ _ outer.0; row = ltb→lt _ _ inner.0; column = ltb→lt _ _ inner.1 }

-- and one below the sizes is inside
pub below_inside : (g : Grid) (v : Vertex) → Below g v → T (inside g v)
unfolding inside
below_inside g v b = simp tests (b.layer, (b.row, b.column))

-- ---- the same vertex

-- vertices that pass the test are equal
pub same_eq : (v w : Vertex) → same v w ≡ true → v ≡ w
unfolding same
same_eq v w h =
    let outer = (and_holds (eqb v.layer w.layer) (eqb v.row w.row && eqb v.column w.column)).0 (rw h tt) in
    let inner = (and_holds (eqb v.row w.row) (eqb v.column w.column)).0 outer.1 in
    let l : v.layer ≡ w.layer = eqb→eq _ _ outer.0 in
    let r : v.row ≡ w.row = eqb→eq _ _ inner.0 in
    let c : v.column ≡ w.column = eqb→eq _ _ inner.1 in
    λ i. record { layer = l i; row = r i; column = c i }

-- a vertex is the same as itself
pub same_refl : (v : Vertex) → same v v ≡ true
unfolding same
same_refl v = simp (eq-eqb v.layer v.layer refl, eq-eqb v.row v.row refl, eq-eqb v.column v.column refl)

-- ---- vertex numbers

-- a vertex below the sizes has a number below the number of vertices
pub below_number : (g : Grid) (v : Vertex) → Below g v → vertex_number g v < vertices g
unfolding vertex_number vertices
below_number g v b = digits_lt (digits_lt b.layer b.row) b.column

-- and so has a vertex inside
pub number_below : (g : Grid) (v : Vertex) → T (inside g v) → vertex_number g v < vertices g
number_below g v h = below_number g v (below g v h)

-- two vertices inside with one number are the same
pub number_inj : (g : Grid) (v w : Vertex) → T (inside g v) → T (inside g w) → vertex_number g v ≡ vertex_number g w → v ≡ w
unfolding vertex_number
number_inj g v w hv hw e =
    let b = below g v hv in
    let d = below g w hw in
    let c : v.column ≡ w.column = sym (digits_mod _ b.column) ∙ ap (λ (x : ℕ). x % g.columns) e ∙ digits_mod _ d.column in
    let upper = sym (digits_div (v.layer * g.rows + v.row) b.column) ∙ ap (λ (x : ℕ). x / g.columns) e ∙ digits_div _ d.column in
    let r : v.row ≡ w.row = sym (digits_mod v.layer b.row) ∙ ap (λ (x : ℕ). x % g.rows) upper ∙ digits_mod w.layer d.row in
    let l : v.layer ≡ w.layer = sym (digits_div v.layer b.row) ∙ ap (λ (x : ℕ). x / g.rows) upper ∙ digits_div w.layer d.row in
    λ i. record { layer = l i; row = r i; column = c i }

-- ---- a step high

-- a step high stays on the layer
pub next_layer : (g : Grid) (v : Vertex) → (next_high g v).layer ≡ v.layer
unfolding next_high
next_layer g v = by (steps_column g v.layer) refl
  where
    by : (c : Bool) → steps_column g v.layer ≡ c → (next_high g v).layer ≡ v.layer
    by true e = rw e
    by false e = rw e

-- a step high adds the stride to the vertex number
pub number_next : (g : Grid) (v : Vertex) → vertex_number g (next_high g v) ≡ vertex_number g v + stride_of g v.layer
unfolding next_high stride_of vertex_number
number_next g v = by (steps_column g v.layer) refl
  where
    by : (c : Bool) → steps_column g v.layer ≡ c → vertex_number g (next_high g v) ≡ vertex_number g v + stride_of g v.layer
    by true e = rw e (omega arith)
    by false e = rw e (omega arith)

-- ---- runs

-- the room high along the track, the vertex itself counted
unfoldable pub room_high : Grid → Vertex → ℕ
room_high g v = cond (steps_column g v.layer) (g.columns - v.column) (g.rows - v.row)

-- a vertex inside has room for itself
room_some : (g : Grid) (v : Vertex) → Below g v → 1 ≤ room_high g v
unfolding room_high
room_some g v b = by (steps_column g v.layer) refl
  where
    by : (c : Bool) → steps_column g v.layer ≡ c → 1 ≤ room_high g v
    by true e = rw e (omega arith)
    by false e = rw e (omega arith)

-- a step high leaves one vertex less
room_next : (g : Grid) (v : Vertex) → room_high g (next_high g v) ≡ room_high g v - 1
unfolding room_high next_high
room_next g v = by (steps_column g v.layer) refl
  where
    by : (c : Bool) → steps_column g v.layer ≡ c → room_high g (next_high g v) ≡ room_high g v - 1
    by true e = rw (e, e) (omega arith)
    by false e = rw (e, e) (omega arith)

-- two tests are equal where each passes with the other
leb_iff : (a b c d : ℕ) → (a ≤ b → c ≤ d) → (c ≤ d → a ≤ b) → leb a b ≡ leb c d
leb_iff a b c d to back = by (dec_le a b)
  where
    by : Dec (a ≤ b) → leb a b ≡ leb c d
    by (yes h) = le-leb a b h ∙ sym (le-leb c d (to h))
    by (no h) = lt-leb a b (omega arith) ∙ sym (lt-leb c d (lt_of_not-le (λ k. h (back k))))

-- the next vertex is inside where the room is more than one
inside_next : (g : Grid) (v : Vertex) → Below g v → inside g (next_high g v) ≡ ltb 1 (room_high g v)
unfolding room_high next_high inside
inside_next g v b = by (steps_column g v.layer) refl
  where
    by : (c : Bool) → steps_column g v.layer ≡ c → inside g (next_high g v) ≡ ltb 1 (room_high g v)
    by true e =
        rw (e, lt-ltb v.layer g.layers b.layer, lt-ltb v.row g.rows b.row)
        (leb_iff (suc (suc v.column)) g.columns 2 (g.columns - v.column) (omega arith) (omega arith))
    by false e =
        rw (e, lt-ltb v.layer g.layers b.layer, lt-ltb v.column g.columns b.column, and-true)
        (leb_iff (suc (suc v.row)) g.rows 2 (g.rows - v.row) (omega arith) (omega arith))

-- what two tests of a run's rest come to
rest_test : (n room : ℕ) → (ltb 1 room && leb (suc n) (room - 1)) ≡ leb (suc (suc n)) room
rest_test n room = by (dec_lt 1 room)
  where
    by : Dec (1 < room) → (ltb 1 room && leb (suc n) (room - 1)) ≡ leb (suc (suc n)) room
    by (yes h) = rw (lt-ltb 1 room h) (leb_iff (suc n) (room - 1) (suc (suc n)) room (omega arith) (omega arith))
    by (no h) = rw (le-ltb 1 room (omega arith)) (sym (lt-leb (suc (suc n)) room (omega arith)))

-- two conjunctions are equal where their second parts are, given the first
and_on_lem : (a : Bool) {b c : Bool} → (T a → b ≡ c) → (a && b) ≡ (a && c)
and_on_lem true h = h tt
and_on_lem false h = refl

-- a run is inside where its first vertex is and the track has room for it
pub all_inside : (g : Grid) (v : Vertex) (n : ℕ) → all (inside g) (run_high g v (suc n)) ≡ (inside g v && leb (suc n) (room_high g v))
unfolding all run_high
all_inside g v zero = and_on_lem (inside g v) (λ h. sym (le-leb 1 (room_high g v) (room_some g v (below g v h))))
all_inside g v (suc n) =
    and_on_lem (inside g v)
    (λ h. all_inside g (next_high g v) n ∙ rw (inside_next g v (below g v h), room_next g v) (rest_test n (room_high g v)))
