-- Vertices by number, and the vertex that a move enters.
-- Specification: sections 1.1 and 2.1.
--     layer_of, row_of, column_of, vertex_by    a vertex taken apart
--     track_index, track_length                 where on its track a vertex lies, and how long the track is
--     entered                                   the vertex that a move enters, if it stays in the grid
use Rattle.std.specs.Prelude.{ℕ, zero, suc, ◌+◌, ◌-◌, ◌*◌, ◌/◌, ◌%◌, Bool, cond, ltb}
use Rattle.job.specs.Grid.{Grid, Vertex, steps_column, stride_of}

-- "numbered by layer, row, column"
unfoldable pub layer_of : Grid → ℕ → ℕ
layer_of g v = v / (g.rows * g.columns)

unfoldable pub row_of : Grid → ℕ → ℕ
row_of g v = v / g.columns % g.rows

unfoldable pub column_of : Grid → ℕ → ℕ
column_of g v = v % g.columns

-- the vertex with a number
abbrev pub vertex_by : Grid → ℕ → Vertex
vertex_by g v = record { layer = layer_of g v; row = row_of g v; column = column_of g v }

-- where on its track a vertex lies: a step on its layer changes this, its column or its row
unfoldable pub track_index : Grid → ℕ → ℕ
track_index g v = cond (steps_column g (layer_of g v)) (column_of g v) (row_of g v)

-- how long the track is
unfoldable pub track_length : Grid → ℕ → ℕ
track_length g v = cond (steps_column g (layer_of g v)) g.columns g.rows

pub data Entered : Type 0 where
  outside : Entered
  at : (vertex : ℕ) → Entered

-- a vertex that is entered only where a test holds
unfoldable pub if_there : Bool → ℕ → Entered
if_there there v = cond there (at v) outside

-- "A move's number decides what it changes: 0 low and 1 high step along the layer's track, 2 goes down a
-- layer, 3 up. It stays in the grid."
unfoldable pub entered : Grid → (v move : ℕ) → Entered
entered g v zero = if_there (ltb 0 (track_index g v)) (v - stride_of g (layer_of g v))
entered g v (suc zero) = if_there (ltb (suc (track_index g v)) (track_length g v)) (v + stride_of g (layer_of g v))
entered g v (suc (suc zero)) = if_there (ltb 0 (layer_of g v)) (v - g.rows * g.columns)
entered g v (suc (suc (suc zero))) = if_there (ltb (suc (layer_of g v)) g.layers) (v + g.rows * g.columns)
entered g v (suc (suc (suc (suc m)))) = outside
