-- The forms in which the code holds the parts of a job, each made from the records of Job and the readers of
-- Reading.
use Rattle.std.specs.Prelude.{ℕ, ◌≤◌, ◌<◌, suc, ◌+◌, ◌-◌, List, map, ◌++◌, cond, replicate, length, eqb, Option, Some, None}
use Rattle.bits.specs.Bits.{bits_of, field, whole}
use Rattle.job.specs.Grid.{Grid, Vertex, vertices}
use Rattle.job.specs.Job.{closed_price, Layer, Obstacle, Box}
use Rattle.job.specs.Reading.{Head, head_at, layer_at, vertex_at, obstacle_at, box_at}
use Rattle.job.specs.declared.penalty.Penalty.{Penalty}
use Rattle.job.specs.declared.penalty.Penalty.TheVariants.{Closed, Price}
use Rattle.job.specs.declared.grid.Grid.{Grid as GridStruct}
use Rattle.job.specs.declared.grid.Vertex.{Vertex as VertexStruct}
use Rattle.job.specs.declared.groups.Head.{Head as HeadStruct}
use Rattle.job.specs.declared.groups.Layer.{Layer as LayerStruct}
use Rattle.job.specs.declared.groups.Obstacle.{Obstacle as ObstacleStruct}
use Rattle.job.specs.declared.groups.Box.{Box as BoxStruct}
use Rattle.job.specs.declared.groups.NetHead.{NetHead}

unfoldable pub penalty_of : ℕ → Penalty
penalty_of field = cond (eqb field closed_price) Closed (Price field)

-- ---- structs and the records that they hold

abbrev pub grid_of : GridStruct → Grid
grid_of g = record { direction = g.direction; layers = g.layers; columns = g.columns; rows = g.rows }

abbrev pub vertex_of : VertexStruct → Vertex
vertex_of v = record { layer = v.layer; row = v.row; column = v.column }

abbrev pub obstacle_of : ObstacleStruct → Obstacle
obstacle_of o = record { first = vertex_of o.first; run = o.run }

abbrev pub box_of : BoxStruct → Box
box_of b =
    record {
      layer_low = b.layers.low;
      layer_high = b.layers.high;
      row_low = b.rows.low;
      row_high = b.rows.high;
      column_low = b.columns.low;
      column_high = b.columns.high;
    }

abbrev pub head_of : HeadStruct → Head
head_of h = record { grid = grid_of h.grid; guide = h.guide; short = h.short; nets = h.nets; obstacles = h.obstacles }

abbrev pub grid_struct : Grid → GridStruct
grid_struct g = record { direction = g.direction; layers = g.layers; columns = g.columns; rows = g.rows }

abbrev pub head_struct : Head → HeadStruct
head_struct h =
    record { grid = grid_struct h.grid; guide = h.guide; short = h.short; nets = h.nets; obstacles = h.obstacles }

abbrev pub vertex_struct : Vertex → VertexStruct
vertex_struct v = record { layer = v.layer; row = v.row; column = v.column }

abbrev pub layer_struct : Layer → LayerStruct
layer_struct l = record { wire = l.wire; via = l.via; least = l.min_length; area = l.area }

abbrev pub obstacle_struct : Obstacle → ObstacleStruct
obstacle_struct o = record { first = vertex_struct o.first; run = o.run }

abbrev pub box_struct : Box → BoxStruct
box_struct b =
    record {
      layers = record { low = b.layer_low; high = b.layer_high };
      rows = record { low = b.row_low; high = b.row_high };
      columns = record { low = b.column_low; high = b.column_high };
    }

-- past the top layer
unfoldable pub no_line : LayerStruct
no_line = record { wire = 0; via = 0; least = 0; area = 0 }

-- an array of eight: the line of each layer, then lines of zeros
unfoldable pub eight : List LayerStruct → List LayerStruct
eight ls = ls ++ replicate (8 - length ls) no_line

unfoldable pub layers_of : List Layer → List LayerStruct
layers_of ls = eight (map layer_struct ls)

-- ---- groups: whole, or cut

unfoldable pub head_group : List ℕ → Option (ℕ × HeadStruct)
head_group bytes =
    cond (whole (bits_of bytes) 0 80)
    (Some (field (bits_of bytes) 0 4, head_struct (head_at (bits_of bytes) 0)))
    None

unfoldable pub layer_group : List ℕ → ℕ → Option LayerStruct
layer_group bytes at =
    cond (whole (bits_of bytes) at 40) (Some (layer_struct (layer_at (bits_of bytes) at))) None

unfoldable pub vertex_group : List ℕ → ℕ → Option VertexStruct
vertex_group bytes at =
    cond (whole (bits_of bytes) at 19) (Some (vertex_struct (vertex_at (bits_of bytes) at))) None

unfoldable pub obstacle_group : List ℕ → ℕ → Option ObstacleStruct
obstacle_group bytes at =
    cond (whole (bits_of bytes) at 27) (Some (obstacle_struct (obstacle_at (bits_of bytes) at))) None

unfoldable pub net_group : List ℕ → ℕ → Option NetHead
net_group bytes at =
    cond (whole (bits_of bytes) at 8)
    (Some (record { pins = suc (field (bits_of bytes) at 4); boxes = field (bits_of bytes) (at + 4) 4 }))
    None

unfoldable pub box_group : List ℕ → ℕ → Option BoxStruct
box_group bytes at =
    cond (whole (bits_of bytes) at 38) (Some (box_struct (box_at (bits_of bytes) at))) None

-- ---- what the code asks of a grid

-- its numbers lie in their fields' ranges
pub record Small (g : GridStruct) : Type 0 where
  pub direction : g.direction ≤ 1
  pub layers : g.layers ≤ 8
  pub columns : g.columns ≤ 256
  pub rows : g.rows ≤ 256

-- a vertex whose numbers lie in their fields' ranges
pub record InFields (v : VertexStruct) : Type 0 where
  pub layer : v.layer < 8
  pub row : v.row < 256
  pub column : v.column < 256

-- and it has at most 16,384 vertices
pub record Sized (g : GridStruct) : Type 0 where
  pub small : Small g
  pub vertices : vertices (grid_of g) ≤ 16384
