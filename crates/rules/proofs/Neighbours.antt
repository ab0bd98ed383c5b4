-- The vertex that a move enters.
--     index_below                              a vertex lies on its track
--     OneHigh, low_enters, high_enters         a step: one vertex is the next high of the other
--     enters_low, enters_high                  the other way
--     high_vertex                              by their coordinates
--     OneUp, down_enters, up_enters            a via: one vertex is above the other
--     enters_down, enters_up                   the other way
--     entered_below                            a vertex that is entered is of the grid
--     entered_back                             the opposite move enters the vertex that was left
use Prim.Native.Nat.{ℕ, zero, suc, ◌+◌, ◌-◌, ◌*◌, ◌%◌, ◌<◌}
use mathlib.Core.Path.{◌≡◌, refl, sym, ap, ◌∙◌, subst, subst₂}
use mathlib.Core.Bool.{Bool, true, false, cond}
use native.Mathlib.Nat.{not-suc-le-zero}
use native.Mathlib.Omega.{arith}
use borrow.Author.Tests.{ltb-true, lt-ltb}
use Rattle.job.specs.Grid.{Grid, Vertex, vertices, vertex_number, steps_column, next_high, stride_of}
use Rattle.job.proofs.Grids.{Below, below_number, number_next, next_layer}
use Rattle.rules.specs.Tracks.{layer_of, row_of, column_of, vertex_by, track_index, track_length, outside, at, if_there, entered}
use Rattle.rules.specs.Structs.{index_on, length_on}
use Rattle.rules.proofs.Vertices.{number_vertex, vertex_number_lem, vertex_below}

-- a vertex that is entered only where a test holds
there : (b : Bool) {v w : ℕ} → if_there b v ≡ at w → (b ≡ true) × (v ≡ w)
unfolding if_there
there true e = (refl, cc)
there false e = (cc, cc)

-- ---- a step

-- w is the next vertex high of v along its track
pub record OneHigh (g : Grid) (v w : ℕ) : Type 0 where
  pub lower : v < vertices g
  pub upper : w < vertices g
  pub number : w ≡ v + stride_of g (layer_of g v)
  pub layer : layer_of g w ≡ layer_of g v
  pub index : track_index g w ≡ suc (track_index g v)
  pub room : track_index g w < track_length g v

-- the next vertex high lies one further
next_index : (g : Grid) (x : Vertex) → index_on g (next_high g x) ≡ suc (index_on g x)
unfolding next_high
next_index g x = by (steps_column g x.layer) refl
  where
    by : (c : Bool) → steps_column g x.layer ≡ c → index_on g (next_high g x) ≡ suc (index_on g x)
    by true e = rw (e, e)
    by false e = rw (e, e)

-- a vertex below the grid's sizes lies on its track
pub index_below : (g : Grid) (x : Vertex) → Below g x → index_on g x < length_on g x.layer
index_below g x b = by (steps_column g x.layer) refl
  where
    by : (c : Bool) → steps_column g x.layer ≡ c → index_on g x < length_on g x.layer
    by true e = rw e b.column
    by false e = rw e b.row

-- where the track goes on, the next vertex high is below the grid's sizes
next_below : (g : Grid) (x : Vertex) → Below g x → suc (index_on g x) < length_on g x.layer → Below g (next_high g x)
unfolding next_high
next_below g x b h = by (steps_column g x.layer) refl
  where
    by : (c : Bool) → steps_column g x.layer ≡ c → Below g (next_high g x)
    by true e = rw e (record { layer = b.layer; row = b.row; column = rw e at h })
    by false e = rw e (record { layer = b.layer; row = rw e at h; column = b.column })

-- the index of a vertex on its track, from its number
index_number : (g : Grid) (x : Vertex) → Below g x → track_index g (vertex_number g x) ≡ index_on g x
unfolding track_index
index_number g x b = ap (index_on g) (vertex_number_lem g x b)

-- the layer of a vertex, from its number
layer_number : (g : Grid) (x : Vertex) → Below g x → layer_of g (vertex_number g x) ≡ x.layer
layer_number g x b = ap (λ (y : Vertex). y.layer) (vertex_number_lem g x b)

-- where a vertex and the next high are below the grid's sizes, their numbers are so
one_high : (g : Grid) (x : Vertex) → Below g x → Below g (next_high g x) → OneHigh g (vertex_number g x) (vertex_number g (next_high g x))
unfolding track_length
one_high g x b n =
    let on = subst (λ (l : ℕ). index_on g (next_high g x) < length_on g l) (next_layer g x) (index_below g (next_high g x) n) in
    record {
      lower = below_number g x b;
      upper = below_number g (next_high g x) n;
      number = rw layer_number (number_next g x);
      layer = layer_number g (next_high g x) n ∙ next_layer g x ∙ sym (layer_number g x b);
      index = index_number g (next_high g x) n ∙ next_index g x ∙ ap suc (sym (index_number g x b));
      room = rw (index_number g (next_high g x) n, layer_number g x b) on;
    }

-- the vertex before, along its track
low_of : Grid → Vertex → Vertex
low_of g x =
    cond (steps_column g x.layer)
    (record { layer = x.layer; row = x.row; column = x.column - 1 })
    (record { layer = x.layer; row = x.row - 1; column = x.column })

-- a vertex that is not the first of its track is the next high of the one before
high_low_of : (g : Grid) (x : Vertex) → 0 < index_on g x → next_high g (low_of g x) ≡ x
unfolding low_of next_high
high_low_of g x h = by (steps_column g x.layer) refl
  where
    by : (c : Bool) → steps_column g x.layer ≡ c → next_high g (low_of g x) ≡ x
    by true e =
        let h' : 0 < x.column = rw e at h in
        let back : suc (x.column - 1) ≡ x.column = omega arith in
        rw (e, e) (λ i. record { layer = x.layer; row = x.row; column = back i })
    by false e =
        let h' : 0 < x.row = rw e at h in
        let back : suc (x.row - 1) ≡ x.row = omega arith in
        rw (e, e) (λ i. record { layer = x.layer; row = back i; column = x.column })

-- the vertex before is below the grid's sizes
low_below : (g : Grid) (x : Vertex) → Below g x → Below g (low_of g x)
unfolding low_of
low_below g x b = by (steps_column g x.layer) refl
  where
    by : (c : Bool) → steps_column g x.layer ≡ c → Below g (low_of g x)
    by true e = rw e (record { layer = b.layer; row = b.row; column = omega arith })
    by false e = rw e (record { layer = b.layer; row = omega arith; column = b.column })

-- a step high
pub high_enters : (g : Grid) {v w : ℕ} → v < vertices g → entered g v 1 ≡ at w → OneHigh g v w
unfolding entered track_index track_length
high_enters g {v} {w} h e =
    let x = vertex_by g v in
    let b = vertex_below g h in
    let (on, number) = there _ e in
    let n = next_below g x b (ltb-true _ _ on) in
    let next : vertex_number g (next_high g x) ≡ w = omega (arith, number_next g x, number_vertex g v, number) in
    subst₂ (OneHigh g) (number_vertex g v) next (one_high g x b n)

-- a step low
pub low_enters : (g : Grid) {v w : ℕ} → v < vertices g → entered g v 0 ≡ at w → OneHigh g w v
unfolding entered track_index track_length
low_enters g {v} {w} h e =
    let x = vertex_by g v in
    let y = low_of g x in
    let b = vertex_below g h in
    let (on, number) = there _ e in
    let high = high_low_of g x (ltb-true _ _ on) in
    let this : vertex_number g (next_high g y) ≡ v = ap (vertex_number g) high ∙ number_vertex g v in
    let layer : y.layer ≡ x.layer = sym (next_layer g y) ∙ ap (λ (z : Vertex). z.layer) high in
    let stride = ap (stride_of g) layer in
    let before : vertex_number g y ≡ w = omega (arith, number_next g y, this, stride, number) in
    subst₂ (OneHigh g) before this (one_high g y (low_below g x b) (subst (Below g) (sym high) b))

-- from the lower of two to the upper
enters_high : (g : Grid) {v w : ℕ} → OneHigh g v w → entered g v 1 ≡ at w
unfolding entered if_there
enters_high g {v} {w} o = rw (lt-ltb (suc (track_index g v)) (track_length g v) (omega (arith, o.index, o.room))) (ap at (sym o.number))

-- from the upper of two to the lower
enters_low : (g : Grid) {v w : ℕ} → OneHigh g v w → entered g w 0 ≡ at v
unfolding entered if_there
enters_low g {v} {w} o =
    let stride = ap (stride_of g) o.layer in
    let number : w - stride_of g (layer_of g w) ≡ v = omega (arith, o.number, stride) in
    rw (lt-ltb 0 (track_index g w) (omega (arith, o.index))) (ap at number)

-- by their coordinates
pub high_vertex : (g : Grid) {v w : ℕ} → OneHigh g v w → vertex_by g w ≡ next_high g (vertex_by g v)
unfolding track_index track_length
high_vertex g {v} {w} o =
    let x = vertex_by g v in
    let n = next_below g x (vertex_below g o.lower) (rw o.index at o.room) in
    let next : vertex_number g (next_high g x) ≡ w = omega (arith, number_next g x, number_vertex g v, o.number) in
    ap (vertex_by g) (sym next) ∙ vertex_number_lem g (next_high g x) n

-- ---- a via

-- w is the vertex above v
pub record OneUp (g : Grid) (v w : ℕ) : Type 0 where
  pub lower : v < vertices g
  pub upper : w < vertices g
  pub number : w ≡ v + g.rows * g.columns
  pub layer : layer_of g w ≡ suc (layer_of g v)
  pub row : row_of g w ≡ row_of g v
  pub column : column_of g w ≡ column_of g v
  pub room : layer_of g w < g.layers

-- where a vertex and the one above are below the grid's sizes, their numbers are so
one_up : (g : Grid) (l r c : ℕ) → suc l < g.layers → r < g.rows → c < g.columns
    → OneUp g (vertex_number g (record { layer = l; row = r; column = c })) (vertex_number g (record { layer = suc l; row = r; column = c }))
unfolding vertex_number
one_up g l r c hl hr hc =
    let x : Vertex = record { layer = l; row = r; column = c } in
    let y : Vertex = record { layer = suc l; row = r; column = c } in
    let b : Below g x = record { layer = omega arith; row = hr; column = hc } in
    let n : Below g y = record { layer = hl; row = hr; column = hc } in
    let ex = vertex_number_lem g x b in
    let ey = vertex_number_lem g y n in
    let layer = layer_number g y n in
    record {
      lower = below_number g x b;
      upper = below_number g y n;
      number = omega arith;
      layer = layer ∙ ap suc (sym (layer_number g x b));
      row = ap (λ (z : Vertex). z.row) ey ∙ ap (λ (z : Vertex). z.row) (sym ex);
      column = ap (λ (z : Vertex). z.column) ey ∙ ap (λ (z : Vertex). z.column) (sym ex);
      room = rw layer hl;
    }

-- a move up
pub up_enters : (g : Grid) {v w : ℕ} → v < vertices g → entered g v 3 ≡ at w → OneUp g v w
unfolding entered
up_enters g {v} {w} h e =
    let b = vertex_below g h in
    let (on, number) = there _ e in
    let up = one_up g (layer_of g v) (row_of g v) (column_of g v) (ltb-true _ _ on) b.row b.column in
    let this = number_vertex g v in
    subst₂ (OneUp g) this (up.number ∙ ap (λ (z : ℕ). z + g.rows * g.columns) this ∙ number) up

-- a move down
pub down_enters : (g : Grid) {v w : ℕ} → v < vertices g → entered g v 2 ≡ at w → OneUp g w v
unfolding entered
down_enters g {v} {w} h e = by (layer_of g v) refl
  where
    by : (l : ℕ) → layer_of g v ≡ l → OneUp g w v
    by zero z =
        let some : 0 < layer_of g v = ltb-true _ _ (there _ e).0 in
        absurd (not-suc-le-zero (rw z at some))
    by (suc l) z =
        let b = vertex_below g h in
        let (on, number) = there _ e in
        let up = one_up g l (row_of g v) (column_of g v) (rw z at b.layer) b.row b.column in
        let this : vertex_number g (record { layer = suc l; row = row_of g v; column = column_of g v }) ≡ v = rw z at (number_vertex g v) in
        let before : vertex_number g (record { layer = l; row = row_of g v; column = column_of g v }) ≡ w = omega (arith, up.number, this, number) in
        subst₂ (OneUp g) before this up

-- from the lower of two to the upper
enters_up : (g : Grid) {v w : ℕ} → OneUp g v w → entered g v 3 ≡ at w
unfolding entered if_there
enters_up g {v} {w} o = rw (lt-ltb (suc (layer_of g v)) g.layers (omega (arith, o.layer, o.room))) (ap at (sym o.number))

-- from the upper of two to the lower
enters_down : (g : Grid) {v w : ℕ} → OneUp g v w → entered g w 2 ≡ at v
unfolding entered if_there
enters_down g {v} {w} o =
    let number : w - g.rows * g.columns ≡ v = omega (arith, o.number) in
    rw (lt-ltb 0 (layer_of g w) (omega (arith, o.layer))) (ap at number)

-- ---- any move

-- a vertex that is entered is of the grid
pub entered_below : (g : Grid) {v w : ℕ} (m : ℕ) → v < vertices g → entered g v m ≡ at w → w < vertices g
unfolding entered
entered_below g zero h e = (low_enters g h e).lower
entered_below g (suc zero) h e = (high_enters g h e).upper
entered_below g (suc (suc zero)) h e = (down_enters g h e).lower
entered_below g (suc (suc (suc zero))) h e = (up_enters g h e).upper
entered_below g {w = w} (suc (suc (suc (suc m)))) h e = no_move e
  where
    no_move : outside ≡ at w → w < vertices g
    no_move q = let z : ◌≡◌ {A = ℕ} 0 1 = cc in omega arith

-- low and high are each other's way back, and so are down and up
pub entered_back : (g : Grid) {v w : ℕ} (m : ℕ) → v < vertices g → entered g v m ≡ at w → (m < 4) × (entered g w (m + 1 - 2 * (m % 2)) ≡ at v)
unfolding entered
entered_back g zero h e = (omega arith, enters_high g (low_enters g h e))
entered_back g (suc zero) h e = (omega arith, enters_low g (high_enters g h e))
entered_back g (suc (suc zero)) h e = (omega arith, enters_up g (down_enters g h e))
entered_back g (suc (suc (suc zero))) h e = (omega arith, enters_down g (up_enters g h e))
entered_back g {w = w} (suc (suc (suc (suc m)))) h e = absurd (no_move e)
  where
    no_move : outside ≡ at w → ⊥
    no_move q = let z : ◌≡◌ {A = ℕ} 0 1 = cc in omega arith
