-- What one net sees at a vertex.
-- Specification: section 2.2.
--     View                   blocked, taken, inside the guide
--     on_layers, on_rows, on_columns, in_box, in_guide
--                                the box test, axis by axis, and the guide of a net
--     member, others_hold    whether a vertex is among a net's, or among another net's
--     view_of                what net k sees where each net has its metal
use Rattle.std.specs.Prelude.{ℕ, zero, suc, List, [], ◌∷◌, map, Bool, true, false, ◌&&◌, ◌||◌, not, leb, ltb, eqb}
use Rattle.job.specs.Lists.{any}
use Rattle.job.specs.Grid.{Grid, Vertex, vertices, vertex_number}
use Rattle.job.specs.Job.{Box, Net, Job}
use Rattle.job.specs.Reading.{on_obstacle}
use Rattle.rules.specs.Tracks.{vertex_by}

-- past the last vertex all is blocked, nothing is taken, nothing is in a guide
pub record View : Type 0 where
  pub blocked : ℕ → Bool
  pub taken : ℕ → Bool
  pub guided : ℕ → Bool

unfoldable pub member : ℕ → List ℕ → Bool
member v vs = any (eqb v) vs

-- whether a list other than the k-th holds the vertex
unfoldable pub others_hold : (k : ℕ) → List (List ℕ) → ℕ → Bool
others_hold k [] v = false
others_hold zero (own ∷ others) v = any (member v) others
others_hold (suc k) (other ∷ rest) v = member v other || others_hold k rest v

abbrev pub between : (low x high : ℕ) → Bool
between low x high = leb low x && leb x high

-- "boxes of 38 bits (layer low, high, row low, high, column low, high; both ends inside)"
abbrev pub on_layers : (layer : ℕ) → Box → Bool
on_layers layer b = between b.layer_low layer b.layer_high

abbrev pub on_rows : (row : ℕ) → Box → Bool
on_rows row b = between b.row_low row b.row_high

abbrev pub on_columns : (column : ℕ) → Box → Bool
on_columns column b = between b.column_low column b.column_high

-- "by layer, then row, then column", "left at the first that says no"
unfoldable pub in_box : Vertex → Box → Bool
in_box v b = on_layers v.layer b && (on_rows v.row b && on_columns v.column b)

-- "No boxes: the whole grid is inside the guide."
unfoldable pub in_guide : List Box → Vertex → Bool
in_guide [] v = true
in_guide (b ∷ bs) v = any (in_box v) (b ∷ bs)

-- the pins of a net, by number
unfoldable pub pins_of : Grid → Net → List ℕ
pins_of g net = map (vertex_number g) net.pins

-- the boxes of the k-th net
unfoldable pub boxes_of : (k : ℕ) → List Net → List Box
boxes_of k [] = []
boxes_of zero (net ∷ nets) = net.boxes
boxes_of (suc k) (net ∷ nets) = boxes_of k nets

-- "It may not enter an obstacle or another net's pin. A vertex is taken when another net's metal, extensions
-- included, covers it."
unfoldable pub view_of : Job → (k : ℕ) → (metal : List (List ℕ)) → View
view_of j k metal =
    let g = j.grid in
    record {
      blocked = λ v. not (ltb v (vertices g)) || (on_obstacle g j.obstacles (vertex_by g v) || others_hold k (map (pins_of g) j.nets) v);
      taken = λ v. ltb v (vertices g) && others_hold k metal v;
      guided = λ v. ltb v (vertices g) && in_guide (boxes_of k j.nets) (vertex_by g v);
    }
