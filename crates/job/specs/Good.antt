-- The rules of a job, stated on the record: its numbers fit their fields, and the specification's rules hold.
-- Specification: section 1.
use Rattle.std.specs.Prelude.{ℕ, ◌^◌, ◌<◌, ◌≤◌, ◌≡◌, List, [], ◌∷◌, ◌++◌, not, length, T}
use Rattle.job.specs.Lists.{any, all, All}
use Rattle.job.specs.Grid.{Grid, Vertex, vertices, inside, same}
use Rattle.job.specs.Job.{Layer, Obstacle, Net, Job}
use Rattle.job.specs.Reading.{covered, on_obstacle, good_box, via_rule}

-- at least one layer, column and row, in the fields' ranges; "at most 16,384" vertices
pub record GoodGrid (g : Grid) : Type 0 where
  pub direction : g.direction < 2
  pub some_layers : 1 ≤ g.layers
  pub layers : g.layers ≤ 8
  pub some_columns : 1 ≤ g.columns
  pub columns : g.columns ≤ 256
  pub some_rows : 1 ≤ g.rows
  pub rows : g.rows ≤ 256
  pub vertices : vertices g ≤ 16384

-- "wire price 10 (at least 1); price of the via to the layer above 10 (at least 1; 0 on the top layer);
-- minimum length M in steps 4 (at least 1); area penalty 16"
pub record GoodLayer (after : ℕ) (l : Layer) : Type 0 where
  pub some_wire : 1 ≤ l.wire
  pub wire : l.wire < 2 ^ 10
  pub via : l.via < 2 ^ 10
  pub via_rule : T (via_rule after l.via)
  pub some_length : 1 ≤ l.min_length
  pub min_length : l.min_length < 2 ^ 4
  pub area : l.area < 2 ^ 16

unfoldable pub GoodLines : List Layer → Type 0
GoodLines [] = Unit
GoodLines (l ∷ ls) = GoodLayer (length ls) l × GoodLines ls

pub record GoodObstacle (g : Grid) (o : Obstacle) : Type 0 where
  pub some_run : 1 ≤ o.run
  pub run : o.run ≤ 256
  pub inside : T (all (inside g) (covered g o))

-- a pin is inside, and on no obstacle
pub record GoodPin (g : Grid) (obstacles : List Obstacle) (v : Vertex) : Type 0 where
  pub inside : T (inside g v)
  pub free : T (not (on_obstacle g obstacles v))

pub record GoodNet (g : Grid) (obstacles : List Obstacle) (net : Net) : Type 0 where
  pub some_pins : 1 ≤ length net.pins
  pub pins : length net.pins ≤ 16
  pub boxes : length net.boxes < 16
  pub good_pins : All (GoodPin g obstacles) net.pins
  pub good_boxes : All (λ b. T (good_box g b)) net.boxes

-- no two are the same vertex
unfoldable pub Distinct : List Vertex → Type 0
Distinct [] = Unit
Distinct (v ∷ vs) = T (not (any (same v) vs)) × Distinct vs

-- the pins of all nets, in order
unfoldable pub all_pins : List Net → List Vertex
all_pins [] = []
all_pins (net ∷ nets) = net.pins ++ all_pins nets

pub record GoodJob (j : Job) : Type 0 where
  pub grid : GoodGrid j.grid
  pub guide : j.guide < 2 ^ 16
  pub short : j.short < 2 ^ 16
  pub lines : length j.lines ≡ j.grid.layers
  pub good_lines : GoodLines j.lines
  pub obstacles : length j.obstacles < 2 ^ 16
  pub good_obstacles : All (GoodObstacle j.grid) j.obstacles
  pub nets : length j.nets < 2 ^ 8
  pub good_nets : All (GoodNet j.grid j.obstacles) j.nets
  pub distinct_pins : Distinct (all_pins j.nets)
