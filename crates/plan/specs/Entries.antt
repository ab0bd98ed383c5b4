-- Entries as bits.
use mathlib.Core.List.{List, map, flat_map}
use Rattle.std.specs.Prelude.{ℕ}
use Rattle.job.specs.Grid.{Grid}
use Rattle.rules.specs.Routings.{Entry}
use Rattle.plan.specs.Layout.{record_bits}

-- the bits of entries, one after the other
abbrev pub entry_bits : Grid → List Entry → List ℕ
entry_bits g es = flat_map (record_bits g) (map (λ (e : Entry). e.written) es)
