-- A job laid out as bytes, group by group.
-- Specification: section 1.
use Rattle.std.specs.Prelude.{ℕ, ◌-◌, length}
use mathlib.Core.List.{List, [], ◌∷◌, ◌++◌, flat_map}
use Rattle.bits.specs.Bits.{field_bits, group_bits, pack_bits}
use Rattle.job.specs.Grid.{Vertex}
use Rattle.job.specs.Job.{Layer, Obstacle, Box, Net, Job}

unfoldable pub head_bits : Job → List ℕ
head_bits j =
    group_bits
    ((4, 1) ∷ (1, j.grid.direction) ∷ (3, j.grid.layers - 1) ∷ (8, j.grid.columns - 1) ∷ (8, j.grid.rows - 1)
    ∷ (16, j.guide) ∷ (16, j.short) ∷ (8, length j.nets) ∷ (16, length j.obstacles) ∷ [])

unfoldable pub layer_bits : Layer → List ℕ
layer_bits l = group_bits ((10, l.wire) ∷ (10, l.via) ∷ (4, l.min_length) ∷ (16, l.area) ∷ [])

unfoldable pub vertex_bits : Vertex → List ℕ
vertex_bits v = group_bits ((3, v.layer) ∷ (8, v.row) ∷ (8, v.column) ∷ [])

unfoldable pub obstacle_bits : Obstacle → List ℕ
obstacle_bits o = vertex_bits o.first ++ field_bits 8 (o.run - 1)

unfoldable pub box_bits : Box → List ℕ
box_bits b =
    group_bits
    ((3, b.layer_low) ∷ (3, b.layer_high) ∷ (8, b.row_low) ∷ (8, b.row_high) ∷ (8, b.column_low) ∷ (8, b.column_high) ∷ [])

unfoldable pub net_bits : Net → List ℕ
net_bits net =
    group_bits ((4, length net.pins - 1) ∷ (4, length net.boxes) ∷ [])
    ++ (flat_map vertex_bits net.pins ++ flat_map box_bits net.boxes)

unfoldable pub job_bits : Job → List ℕ
job_bits j =
    head_bits j
    ++ (flat_map layer_bits j.lines ++ (flat_map obstacle_bits j.obstacles ++ flat_map net_bits j.nets))

unfoldable pub pack_job : Job → List ℕ
pack_job j = pack_bits (job_bits j)
