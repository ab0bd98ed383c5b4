-- A vertex and a move by coordinates.
--     vertex_fields_lem          the coordinates of a vertex lie in their fields' ranges
--     OneOn, Changed, changed    a move changes one coordinate by one, by its kind
--     bound_along, bound_via     the bound of the vertex entered, by the coordinates of the one left
--     small_sum, bare_small      what is left is small, and in an array of zeros
use Prim.Native.Nat.{ℕ, zero, suc, ◌+◌, ◌^◌, ◌≤◌, ◌<◌}
use mathlib.Core.Path.{◌≡◌, refl, sym, ap, ◌∙◌}
use mathlib.Core.List.{List}
use mathlib.Core.Bool.{Bool, true, false}
use native.Mathlib.Omega.{arith}
use native.Mathlib.Decide.{dec_lt}
use lib.ListN.{length, get_or, replicate, length-replicate, get_or-replicate, get_or-eq_default}
use Rattle.job.specs.Grid.{Grid, Vertex, vertices, steps_column, next_high}
use Rattle.job.specs.Structs.{InFields, grid_of, vertex_struct}
use Rattle.job.specs.declared.grid.Grid.{Grid as GridStruct}
use Rattle.job.specs.declared.grid.Vertex.{Vertex as VertexStruct}
use Rattle.job.proofs.Grids.{below_inside}
use Rattle.job.proofs.Sizes.{inside_fields}
use Rattle.rules.specs.Tracks.{layer_of, row_of, column_of, vertex_by, outside, at, entered}
use Rattle.rules.specs.Segments.{Direction, low, high, Kind, along, down, up, kind_of}
use Rattle.rules.specs.Structs.{OnGrid, next_on}
use Rattle.rules.proofs.Vertices.{vertex_below}
use Rattle.rules.proofs.Neighbours.{OneHigh, low_enters, high_enters, high_vertex, down_enters, up_enters}
use Rattle.rules.proofs.Members.{not_both}
use Rattle.bounds.specs.Bounds.{sum_at, sum_along, bound_at, SmallBounds}

-- the coordinates of a vertex lie in their fields' ranges
pub vertex_fields_lem : (g : GridStruct) (v : ℕ) → OnGrid g v → InFields (vertex_struct (vertex_by (grid_of g) v))
vertex_fields_lem g v on = inside_fields g _ on.small (below_inside (grid_of g) _ (vertex_below (grid_of g) on.there))

-- ---- a move

-- one number is the next of another in a direction
unfoldable pub OneOn : Direction → (x y : ℕ) → Type 0
OneOn low x y = suc y ≡ x
OneOn high x y = y ≡ suc x

-- they differ by one
pub one_near : (d : Direction) {x y : ℕ} → OneOn d x y → (x ≤ y + 1) × (y ≤ x + 1)
unfolding OneOn
one_near low o = (omega (arith, o), omega (arith, o))
one_near high o = (omega (arith, o), omega (arith, o))

-- the positions of their entries are next to each other
entry_next : (d : Direction) (from x y : ℕ) → OneOn d x y → next_on 1 d (from + x) ≡ from + y
unfolding OneOn next_on
entry_next low from x y o = omega (arith, o)
entry_next high from x y o = omega (arith, o)

-- the next position is at most one further
pub next_few : (d : Direction) (x : ℕ) {y n : ℕ} → y ≡ next_on 1 d x → x + 1 < n → y < n
unfolding next_on
next_few low x is few = omega (arith, is, few)
next_few high x is few = omega (arith, is, few)

-- a via goes down or up
unfoldable pub via_on : Direction → Kind
via_on low = down
via_on high = up

-- a move of a kind changes one coordinate to the next in a direction
pub data Changed (g : Grid) (k : Kind) (v w : ℕ) : Type 0 where
  column : (d : Direction) → k ≡ along d → steps_column g (layer_of g v) ≡ true → layer_of g w ≡ layer_of g v → row_of g w ≡ row_of g v
      → OneOn d (column_of g v) (column_of g w) → Changed g k v w
  row : (d : Direction) → k ≡ along d → steps_column g (layer_of g v) ≡ false → layer_of g w ≡ layer_of g v → column_of g w ≡ column_of g v
      → OneOn d (row_of g v) (row_of g w) → Changed g k v w
  layer : (d : Direction) → k ≡ via_on d → row_of g w ≡ row_of g v → column_of g w ≡ column_of g v → OneOn d (layer_of g v) (layer_of g w)
      → Changed g k v w

module _ (g : Grid) {v w : ℕ} (o : OneHigh g v w) where
  -- the next vertex high lies in the next column
  column_next : steps_column g (layer_of g v) ≡ true → (row_of g w ≡ row_of g v) × (column_of g w ≡ suc (column_of g v))
  unfolding next_high
  column_next e = let x = rw e at (high_vertex g o) in (ap (λ (z : Vertex). z.row) x, ap (λ (z : Vertex). z.column) x)

  -- or in the next row
  row_next : steps_column g (layer_of g v) ≡ false → (row_of g w ≡ suc (row_of g v)) × (column_of g w ≡ column_of g v)
  unfolding next_high
  row_next e = let x = rw e at (high_vertex g o) in (ap (λ (z : Vertex). z.row) x, ap (λ (z : Vertex). z.column) x)

-- a step high
high_changed : (g : Grid) {v w : ℕ} → OneHigh g v w → Changed g (along high) v w
unfolding OneOn
high_changed g {v} {w} o = by (steps_column g (layer_of g v)) refl
  where
    by : (b : Bool) → steps_column g (layer_of g v) ≡ b → Changed g (along high) v w
    by true e = let (same, next) = column_next g o e in column high refl e o.layer same next
    by false e = let (next, same) = row_next g o e in row high refl e o.layer same next

-- a step low
low_changed : (g : Grid) {v w : ℕ} → OneHigh g w v → Changed g (along low) v w
unfolding OneOn
low_changed g {v} {w} o = by (steps_column g (layer_of g v)) refl
  where
    by : (b : Bool) → steps_column g (layer_of g v) ≡ b → Changed g (along low) v w
    by true e =
        let (same, next) = column_next g o (ap (steps_column g) (sym o.layer) ∙ e) in
        column low refl e (sym o.layer) (sym same) (sym next)
    by false e =
        let (next, same) = row_next g o (ap (steps_column g) (sym o.layer) ∙ e) in
        row low refl e (sym o.layer) (sym same) (sym next)

-- any move
pub changed : (g : Grid) (m : ℕ) {v w : ℕ} → v < vertices g → entered g v m ≡ at w → Changed g (kind_of m) v w
unfolding entered kind_of via_on OneOn
changed g zero on e = low_changed g (low_enters g on e)
changed g (suc zero) on e = high_changed g (high_enters g on e)
changed g (suc (suc zero)) on e = let o = down_enters g on e in layer low refl (sym o.row) (sym o.column) (sym o.layer)
changed g (suc (suc (suc zero))) on e = let o = up_enters g on e in layer high refl o.row o.column o.layer
changed g (suc (suc (suc (suc m)))) {v} {w} on e = absurd (nowhere e)
  where
    nowhere : outside ≡ at w → ⊥
    nowhere q = let z : ◌≡◌ {A = ℕ} 0 1 = cc in omega arith

-- ---- the bound of the vertex entered

-- a step is no via
step_no_via : (d e : Direction) {k : Kind} → k ≡ along d → k ≡ via_on e → ⊥
unfolding via_on
step_no_via d low step via = let z : ◌≡◌ {A = ℕ} 0 1 = cc in omega arith
step_no_via d high step via = let z : ◌≡◌ {A = ℕ} 0 1 = cc in omega arith

-- a step goes in one direction, and so does a via
step_once : {d e : Direction} {k : Kind} → k ≡ along d → k ≡ along e → d ≡ e
step_once one other = cc

via_once : (d e : Direction) {k : Kind} → k ≡ via_on d → k ≡ via_on e → d ≡ e
unfolding via_on
via_once low low one other = refl
via_once low high one other = let z : ◌≡◌ {A = ℕ} 0 1 = cc in absurd (omega arith)
via_once high low one other = let z : ◌≡◌ {A = ℕ} 0 1 = cc in absurd (omega arith)
via_once high high one other = refl

module _ (g : Grid) (bounds : List ℕ) (k : Kind) (v w : ℕ) {from : VertexStruct} (is : from ≡ vertex_struct (vertex_by g v)) where
  -- by its entries
  bound_by : {row column layer : ℕ} → row ≡ 1 + row_of g w → column ≡ 258 + column_of g w → layer ≡ 516 + layer_of g w
      → sum_at bounds row column layer ≡ bound_at g bounds w
  unfolding bound_at
  bound_by onRow onColumn onLayer = rw (onRow, onColumn, onLayer) refl

  is_row : from.row ≡ row_of g v
  is_row = ap (λ (x : VertexStruct). x.row) is

  is_column : from.column ≡ column_of g v
  is_column = ap (λ (x : VertexStruct). x.column) is

  is_layer : from.layer ≡ layer_of g v
  is_layer = ap (λ (x : VertexStruct). x.layer) is

  -- a step
  pub bound_along : (d : Direction) → k ≡ along d → (steps : Bool) → steps ≡ steps_column g from.layer → Changed g k v w
      → sum_along bounds (1 + from.row) (258 + from.column) (516 + from.layer) steps d ≡ bound_at g bounds w
  bound_along d step true steps (column e same_step on-column same-layer same_row next) =
      bound_by (omega (arith, is_row, same_row)) (rw (is_column, step_once step same_step) (entry_next e 258 _ _ next)) (omega (arith, is_layer, same-layer))
  bound_along d step false steps (row e same_step on_Row same-layer same-column next) =
      bound_by (rw (is_row, step_once step same_step) (entry_next e 1 _ _ next)) (omega (arith, is_column, same-column)) (omega (arith, is_layer, same-layer))
  bound_along d step true steps (row e same_step on_Row same-layer same-column next) =
      absurd (not_both (ap (steps_column g) (sym is_layer) ∙ sym steps) on_Row)
  bound_along d step false steps (column e same_step on-column same-layer same_row next) =
      absurd (not_both on-column (ap (steps_column g) (sym is_layer) ∙ sym steps))
  bound_along d step true steps (layer e via same_row same-column next) = absurd (step_no_via d e step via)
  bound_along d step false steps (layer e via same_row same-column next) = absurd (step_no_via d e step via)

  -- a via
  pub bound_via : (d : Direction) → k ≡ via_on d → Changed g k v w
      → sum_at bounds (1 + from.row) (258 + from.column) (next_on 1 d (516 + from.layer)) ≡ bound_at g bounds w
  bound_via d via (layer e same-via same_row same-column next) =
      bound_by (omega (arith, is_row, same_row)) (omega (arith, is_column, same-column)) (rw (is_layer, via_once d e via same-via) (entry_next e 516 _ _ next))
  bound_via d via (column e step on-column same-layer same_row next) = absurd (step_no_via e d step via)
  bound_via d via (row e step on_Row same-layer same-column next) = absurd (step_no_via e d step via)

-- what is left is small
pub small_sum : (g : Grid) (bounds : List ℕ) → SmallBounds bounds → (v : ℕ) → bound_at g bounds v ≤ 2 ^ 24
unfolding bound_at SmallBounds
small_sum g bounds small v = omega (arith, small (1 + row_of g v), small (258 + column_of g v), small (516 + layer_of g v))

-- an array of zeros
pub bare_small : (n : ℕ) → SmallBounds (replicate n 0)
unfolding SmallBounds
bare_small n k = by (dec_lt k n)
  where
    past : (k < n → ⊥) → length {A = ℕ} (replicate n 0) ≤ k
    past beyond = omega (arith, length-replicate {A = ℕ} n 0)

    by : Dec (k < n) → get_or (replicate n 0) k 0 ≤ 2 ^ 22
    by (yes below) = omega (arith, get_or-replicate {A = ℕ} n k 0 0 below)
    by (no beyond) = omega (arith, get_or-eq_default {A = ℕ} (replicate n 0) 0 (past beyond))
