-- Numbers of a small grid that fit a word.
--     product_within     two factors within their limits
--     small_vertices     the vertices of a small grid
--     inside_fields      a vertex inside, by its numbers
--     number_fits        the products and sums of a vertex's number
use Prim.Native.Nat.{ℕ, ◌+◌, ◌*◌, ◌≤◌, ◌<◌}
use native.Mathlib.Nat.{mul-le-mul}
use native.Mathlib.Omega.{arith}
use lib.Dec.{T}
use Rattle.job.specs.Grid.{inside, vertices}
use Rattle.job.specs.Structs.{Small, InFields, grid_of, vertex_of}
use Rattle.job.specs.declared.grid.Grid.{Grid as GridStruct}
use Rattle.job.specs.declared.grid.Vertex.{Vertex as VertexStruct}
use Rattle.job.proofs.Grids.{below}

-- two factors within their limits
pub product_within : {a b : ℕ} (x y : ℕ) → a ≤ x → b ≤ y → a * b ≤ x * y
product_within x y ha hb = mul-le-mul ha hb

-- a small grid has at most 2^19 vertices
pub small_vertices : (g : GridStruct) → Small g → vertices (grid_of g) ≤ 524288
unfolding vertices
small_vertices g s = mul-le-mul (mul-le-mul s.layers s.rows) s.columns

-- the products and sums of a vertex's number, each within its limit
pub record NumberFits (g : GridStruct) (v : VertexStruct) : Type 0 where
  pub rows : v.layer * g.rows ≤ 2048
  pub row : v.row < 256
  pub columns : (v.layer * g.rows + v.row) * g.columns ≤ 786432
  pub column : v.column < 256

-- a vertex inside a small grid lies in the fields' ranges
pub inside_fields : (g : GridStruct) (v : VertexStruct) → Small g → T (inside (grid_of g) (vertex_of v)) → InFields v
inside_fields g v s h =
    let i = below (grid_of g) (vertex_of v) h in
    record { layer = omega (arith, i.layer, s.layers); row = omega (arith, i.row, s.rows); column = omega (arith, i.column, s.columns) }

-- of a vertex in the fields' ranges
pub number_fits : (g : GridStruct) (v : VertexStruct) → Small g → InFields v → NumberFits g v
number_fits g v s i =
    let rows : v.layer * g.rows ≤ 2048 = product_within 8 256 (omega (arith, i.layer)) s.rows in
    record { rows = rows; row = i.row; columns = product_within 3072 256 (omega (arith, i.row)) s.columns; column = i.column }
