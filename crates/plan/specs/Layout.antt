-- Records as bits: "for each join bit 1, start vertex (3, 8, 8), move count 20, moves of 2 bits each, cost
-- 40; bit 0 where there is none, which ends the net. A net with every pin joined writes no 0. Zero bits fill
-- the last byte."
-- Specification: section 4.1.
use Rattle.std.specs.Prelude.{ℕ, length}
use mathlib.Core.List.{List, [], ◌∷◌, ◌++◌, map, flat_map}
use Rattle.bits.specs.Bits.{field_bits, pack_bits, group_bits}
use Rattle.job.specs.Grid.{Grid}
use Rattle.job.specs.Job.{Job}
use Rattle.rules.specs.Tracks.{layer_of, row_of, column_of}
use Rattle.rules.specs.Joins.{Record, join, none}
use Rattle.rules.specs.Routings.{Entry, routing}

unfoldable pub record_bits : Grid → Record → List ℕ
record_bits g none = field_bits 1 0
record_bits g (join start moves cost) =
    group_bits ((1, 1) ∷ (3, layer_of g start) ∷ (8, row_of g start) ∷ (8, column_of g start) ∷ (20, length moves) ∷ [])
    ++ (flat_map (field_bits 2) moves ++ field_bits 40 cost)

unfoldable pub plan_bytes : Grid → List Record → List ℕ
plan_bytes g records = pack_bits (flat_map (record_bits g) records)

-- the bytes of the plan that routing makes of a job
unfoldable pub plan_of : Job → List ℕ
plan_of j = plan_bytes j.grid (map (λ (e : Entry). e.written) (routing j).entries)
