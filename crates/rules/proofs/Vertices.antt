-- A vertex by its number.
--     number_vertex, vertex_number_lem    numbers and vertices undo each other
--     vertex_below                        below the number of vertices, and so below the grid's sizes
use Prim.Native.Nat.{ℕ, zero, suc, ◌+◌, ◌*◌, ◌/◌, ◌%◌, ◌<◌}
use mathlib.Core.Path.{◌≡◌, sym, ap, ◌∙◌}
use native.Mathlib.Nat.{mul-zero, mul_comm, mod-lt, div-add-mod', div-div-eq-div-mul, div-lt_iff_lt-mul, not-suc-le-zero}
use native.Mathlib.Omega.{arith}
use lib.Arith.{digits_div, digits_mod}
use Rattle.job.specs.Grid.{Grid, Vertex, vertices, vertex_number}
use Rattle.job.proofs.Grids.{Below}
use Rattle.rules.specs.Tracks.{layer_of, row_of, column_of, vertex_by}

-- the layer, by two divisions
layer_twice : (g : Grid) (v : ℕ) → layer_of g v ≡ v / g.columns / g.rows
unfolding layer_of
layer_twice g v = ap (λ (x : ℕ). v / x) (mul_comm g.rows g.columns) ∙ sym (div-div-eq-div-mul v g.columns g.rows)

-- a number is that of its vertex
pub number_vertex : (g : Grid) (v : ℕ) → vertex_number g (vertex_by g v) ≡ v
unfolding vertex_number row_of column_of
number_vertex g v =
    rw (layer_twice g v)
    (ap (λ (x : ℕ). x * g.columns + v % g.columns) (div-add-mod' (v / g.columns) g.rows) ∙ div-add-mod' v g.columns)

-- a vertex below the grid's sizes is that of its number
pub vertex_number_lem : (g : Grid) (w : Vertex) → Below g w → vertex_by g (vertex_number g w) ≡ w
unfolding vertex_number row_of column_of
vertex_number_lem g w b = λ i. record { layer = layer i; row = row i; column = column i }
  where
    upper : vertex_number g w / g.columns ≡ w.layer * g.rows + w.row
    upper = digits_div (w.layer * g.rows + w.row) b.column

    layer : layer_of g (vertex_number g w) ≡ w.layer
    layer = layer_twice g (vertex_number g w) ∙ ap (λ (x : ℕ). x / g.rows) upper ∙ digits_div w.layer b.row

    row : row_of g (vertex_number g w) ≡ w.row
    row = ap (λ (x : ℕ). x % g.rows) upper ∙ digits_mod w.layer b.row

    column : column_of g (vertex_number g w) ≡ w.column
    column = digits_mod (w.layer * g.rows + w.row) b.column

-- a factor of a number that is more than another is not 0
last_factor : {v : ℕ} (a b : ℕ) → v < a * b → 0 < b
last_factor a zero h = absurd (not-suc-le-zero (rw mul-zero at h))
last_factor a (suc b) h = omega arith

-- a number below the number of vertices has a layer, row and column of the grid
pub vertex_below : (g : Grid) {v : ℕ} → v < vertices g → Below g (vertex_by g v)
unfolding vertices row_of column_of
vertex_below g {v} h =
    let columns : 0 < g.columns = last_factor _ _ h in
    let upper : v / g.columns < g.layers * g.rows = (div-lt_iff_lt-mul columns).1 h in
    let rows : 0 < g.rows = last_factor _ _ upper in
    record {
      layer = rw layer_twice ((div-lt_iff_lt-mul rows).1 upper);
      row = mod-lt (v / g.columns) rows;
      column = mod-lt v columns;
    }
