-- What a step asks of the vertex that it leaves.
use Rattle.std.specs.Prelude.{ℕ, ◌<◌, ◌≡◌}
use Rattle.job.specs.Grid.{vertices}
use Rattle.job.specs.Structs.{grid_of, vertex_struct}
use Rattle.job.specs.declared.grid.Vertex.{Vertex as VertexStruct}
use Rattle.rules.specs.Tracks.{vertex_by}
use Rattle.rules.specs.declared.price.Prices.{Prices}

-- it is a vertex of the grid, with its coordinates
pub record Here (p : Prices) (v : ℕ) (from : VertexStruct) : Type 0 where
  pub there : v < vertices (grid_of p.tech.grid)
  pub is : from ≡ vertex_struct (vertex_by (grid_of p.tech.grid) v)
