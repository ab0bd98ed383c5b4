-- The grid: vertices on layers, and the track on which a layer's steps run.
-- Specification: section 1.1.
use Rattle.std.specs.Prelude.{ℕ, zero, suc, ◌+◌, ◌*◌, ◌%◌, List, [], ◌∷◌, Bool, ◌&&◌, cond, ltb, eqb}

pub record Grid : Type 0 where
  pub direction : ℕ
  pub layers : ℕ
  pub columns : ℕ
  pub rows : ℕ

pub record Vertex : Type 0 where
  pub layer : ℕ
  pub row : ℕ
  pub column : ℕ

-- "Vertices are layers × rows × columns"
unfoldable pub vertices : Grid → ℕ
vertices g = g.layers * g.rows * g.columns

-- "numbered by layer, row, column"
unfoldable pub vertex_number : Grid → Vertex → ℕ
vertex_number g v = (v.layer * g.rows + v.row) * g.columns + v.column

unfoldable pub inside : Grid → Vertex → Bool
inside g v = ltb v.layer g.layers && (ltb v.row g.rows && ltb v.column g.columns)

unfoldable pub same : Vertex → Vertex → Bool
same v w = eqb v.layer w.layer && (eqb v.row w.row && eqb v.column w.column)

-- "Direction 0: a step on layer 0 changes the column; 1: the row. Layers alternate upward."
unfoldable pub steps_column : Grid → (layer : ℕ) → Bool
steps_column g layer = eqb ((g.direction + layer) % 2) 0

-- the vertex one step high along its track
unfoldable pub next_high : Grid → Vertex → Vertex
next_high g v =
    cond (steps_column g v.layer)
    (record { layer = v.layer; row = v.row; column = suc v.column })
    (record { layer = v.layer; row = suc v.row; column = v.column })

-- n vertices from one on, high along its track
unfoldable pub run_high : Grid → Vertex → ℕ → List Vertex
run_high g v zero = []
run_high g v (suc n) = v ∷ run_high g (next_high g v) n

-- what a step high along the layer's track adds to a vertex number
unfoldable pub stride_of : Grid → (layer : ℕ) → ℕ
stride_of g layer = cond (steps_column g layer) 1 g.columns
