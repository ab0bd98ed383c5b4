-- The job: layers with their prices, obstacles, and nets with pins and guide boxes. Numbers are what they
-- mean: a count that the job's bits hold less one is here the count.
-- Specification: section 1.
use Rattle.std.specs.Prelude.{ℕ, max, List, [], ◌∷◌}
use Rattle.job.specs.Grid.{Grid, Vertex}

-- "In each penalty the closed price 65,535 is one named constant; it forbids what it prices."
abbrev pub closed_price : ℕ
closed_price = 65535

-- "wire price; price of the via to the layer above; minimum length M in steps; area penalty"
pub record Layer : Type 0 where
  pub wire : ℕ
  pub via : ℕ
  pub min_length : ℕ
  pub area : ℕ

-- so many vertices from the first, "running high along its track"
pub record Obstacle : Type 0 where
  pub first : Vertex
  pub run : ℕ

-- "both ends inside"
pub record Box : Type 0 where
  pub layer_low : ℕ
  pub layer_high : ℕ
  pub row_low : ℕ
  pub row_high : ℕ
  pub column_low : ℕ
  pub column_high : ℕ

-- "No boxes: the whole grid is inside the guide."
pub record Net : Type 0 where
  pub pins : List Vertex
  pub boxes : List Box

pub record Job : Type 0 where
  pub grid : Grid
  pub guide : ℕ
  pub short : ℕ
  pub lines : List Layer
  pub obstacles : List Obstacle
  pub nets : List Net

-- the largest M of the layers
unfoldable pub largest_min_length : List Layer → ℕ
largest_min_length [] = 0
largest_min_length (l ∷ ls) = max l.min_length (largest_min_length ls)
