-- Fields put one after the other.
--     put_next     a field and those after it
--     put_last     no field
--     start_bits   the fields of a join's start
use Prim.Native.Nat.{ℕ, ◌+◌}
use mathlib.Core.Path.{◌≡◌, refl, sym, ap, ◌∙◌}
use mathlib.Core.List.{List, [], ◌∷◌}
use lib.ListN.{length}
use Rattle.bits.specs.Bits.{field_bits, group_bits}
use Rattle.bits.specs.Puts.{put_bits}
use Rattle.bits.proofs.Laws.{length-field_bits, put_bits-append}
use Rattle.job.specs.Grid.{Grid}
use Rattle.job.specs.Structs.{vertex_struct}
use Rattle.job.specs.declared.grid.Vertex.{Vertex as VertexStruct}
use Rattle.rules.specs.Tracks.{layer_of, row_of, column_of, vertex_by}

-- a field that was put, and the fields after it
pub put_next : (s : List ℕ) (at w v : ℕ) (fs : List (ℕ × ℕ)) {t : List ℕ} {next : ℕ} → (next ≡ at + w) × (t ≡ put_bits s at (field_bits w v))
    → put_bits t next (group_bits fs) ≡ put_bits s at (group_bits ((w, v) ∷ fs))
unfolding group_bits
put_next s at w v fs {t} {next} (moved, put) =
    let wide : next ≡ at + length (field_bits w v) = rw length-field_bits moved in
    (λ i. put_bits (put i) (wide i) (group_bits fs)) ∙ sym (put_bits-append s at (field_bits w v) (group_bits fs))

-- no field after the last
pub put_last : (s : List ℕ) (at : ℕ) → s ≡ put_bits s at (group_bits [])
unfolding group_bits put_bits
put_last s at = refl

-- the fields of a join's start, by its vertex
pub start_bits : (g : Grid) (start count : ℕ) {v : VertexStruct} → v ≡ vertex_struct (vertex_by g start)
    → group_bits ((1, 1) ∷ (3, v.layer) ∷ (8, v.row) ∷ (8, v.column) ∷ (20, count) ∷ [])
    ≡ group_bits ((1, 1) ∷ (3, layer_of g start) ∷ (8, row_of g start) ∷ (8, column_of g start) ∷ (20, count) ∷ [])
start_bits g start count is =
    ap (λ (w : VertexStruct). group_bits ((1, 1) ∷ (3, w.layer) ∷ (8, w.row) ∷ (8, w.column) ∷ (20, count) ∷ [])) is
