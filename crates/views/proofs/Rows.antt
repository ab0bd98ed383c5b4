-- Vertices of one layer, of one row, and at one column of it, that are found inside the guide.
--     layer_outside, row_outside   none on a layer or a row that is none of the box's
--     store_at                     one vertex's byte
--     row_number                   a vertex of the row is one of the grid's
--     column_test                  a box's vertices at one column of the row
--     row_turn                     a turn of the loop over the columns
use Prim.Native.Nat.{ℕ, ◌+◌, ◌≤◌, ◌<◌}
use mathlib.Core.Path.{◌≡◌, refl, sym, ap, ◌∙◌}
use mathlib.Core.List.{List}
use mathlib.Core.Bool.{Bool, true, false, ◌&&◌, and-false}
use native.Mathlib.Omega.{arith}
use lib.ListN.{length, get_or, set, length-set}
use lib.Seq.{get_or-set_same, get_or-set_other}
use lib.Dec.{eqb}
use borrow.Author.Tests.{eqb-true, eqb-false}
use Rattle.job.specs.Grid.{Grid, Vertex, vertices, vertex_number, same}
use Rattle.job.specs.Job.{Box}
use Rattle.job.proofs.Grids.{Below, below_inside, below_number}
use Rattle.rules.specs.Tracks.{vertex_by}
use Rattle.rules.specs.Views.{on_layers, on_rows, in_box}
use Rattle.rules.proofs.Boxes.{box_layer, box_row}
use Rattle.rules.proofs.Vertices.{number_vertex, vertex_below}
use Rattle.views.specs.Sight.{in_layer, in_row, guided_byte, GuidedWhere}
use Rattle.views.proofs.Pins.{same_number}
use Rattle.views.proofs.Axes.{FoundTo, found_turn}

-- no vertex of a layer that is none of the box's lies in the box
pub layer_outside : (layer : ℕ) (b : Box) → on_layers layer b ≡ false → (w : Vertex) → w.layer ≡ layer → in_box w b ≡ false
layer_outside layer b outside w e = box_layer w b (rw e outside)

-- nor of such a row
pub row_outside : (layer row : ℕ) (b : Box) → on_rows row b ≡ false → (w : Vertex) → w.row ≡ row → in_layer layer b w ≡ false
unfolding in_layer
row_outside layer row b outside w e = rw (box_row w b (rw e outside)) (and-false (eqb w.layer layer))

-- one vertex's byte, found inside the guide or not
store_at : (g : Grid) (p : Vertex) → Below g p → (found : Bool) (seen : List ℕ) → vertices g ≤ length seen
    → GuidedWhere g (λ w. same w p && found) seen (set seen (vertex_number g p) (guided_byte found (get_or seen (vertex_number g p) 0)))
unfolding guided_byte
store_at g p below found seen room v on =
    let told = same_number g (vertex_by g v) p (below_inside g (vertex_by g v) (vertex_below g on)) (below_inside g p below) in
    rw (told, number_vertex g v) (by (eqb v at) refl)
  where
    at : ℕ
    at = vertex_number g p

    byte : ℕ
    byte = guided_byte found (get_or seen at 0)

    by : (b : Bool) → eqb v at ≡ b → get_or (set seen at byte) v 0 ≡ guided_byte (b && found) (get_or seen v 0)
    by true e =
        let there : at < length seen = omega (arith, below_number g p below) in
        rw (eqb-true v at e) (get_or-set_same seen at byte 0 there)
    by false e = get_or-set_other seen at v byte 0 (eqb-false v at e)

module _ (layer row column : ℕ) where
  -- a column's vertex
  abbrev vertex_at : Vertex
  vertex_at = record { layer = layer; row = row; column = column }

  -- it is one of the grid's
  pub row_number : (g : Grid) {number : ℕ} → Below g vertex_at → number ≡ vertex_number g vertex_at → number < vertices g
  row_number g below numbered = omega (arith, numbered, below_number g vertex_at below)

  module _ (b : Box) where
    -- a box's vertices at one column of a row: that vertex, if the box has it
    column_test : (w : Vertex) → (same w vertex_at && in_box vertex_at b) ≡ (eqb w.column column && in_row layer row b w)
    unfolding same in_row in_layer in_box
    column_test w = by (eqb w.layer layer) (eqb w.row row) (eqb w.column column) refl refl refl
      where
        by : (l r c : Bool) → eqb w.layer layer ≡ l → eqb w.row row ≡ r → eqb w.column column ≡ c
            → ((l && (r && c)) && in_box vertex_at b) ≡ (c && (r && (l && in_box w b)))
        by true true true el er ec = rw (eqb-true w.layer layer el, eqb-true w.row row er, eqb-true w.column column ec) refl
        by true true false el er ec = refl
        by true false c el er ec = sym (and-false c)
        by false r c el er ec = rw (and-false r, and-false c) refl

    -- a turn stores the byte of the next column's vertex
    pub row_turn : {g : Grid} {found seen : List ℕ} {number byte : ℕ} {inside : Bool} → FoundTo g (λ w. w.column) (in_row layer row b) found seen column
        → Below g vertex_at → vertices g ≤ length seen → number ≡ vertex_number g vertex_at → inside ≡ in_box vertex_at b
        → byte ≡ guided_byte inside (get_or seen number 0) → FoundTo g (λ w. w.column) (in_row layer row b) found (set seen number byte) (column + 1)
    row_turn {g} {seen = seen} {number} {byte} so_far below room numbered tested made = found_turn g _ _ so_far (length-set seen number byte) finds
      where
        finds : GuidedWhere g (λ w. eqb w.column column && in_row layer row b w) seen (set seen number byte)
        finds v on =
            rw (made, tested, numbered) (store_at g vertex_at below (in_box vertex_at b) seen room v on)
            ∙ ap (λ (p : Bool). guided_byte p (get_or seen v 0)) (column_test (vertex_by g v))
