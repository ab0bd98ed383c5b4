-- `search::seed::seed` meets its contract: block by block.
use Prim.Native.Nat.{◌-◌, ◌%◌, min}
use mathlib.Core.Path.{◌≡◌}
use Rattle.rules.specs.Structs.{tech_by}
use Rattle.search.specs.Spreads.{Seeding}
use Rattle.search.proofs.seed.seed.Given as goal

abbrev pub invariant-loop-from : goal.invariant-loop-from
invariant-loop-from l =
    Seeding (tech_by l.prices.tech) l.spots l.bounds.entries l.initial.work l.work l.size (min l.from l.count) × (l.from % 128 ≡ 0)

abbrev pub decreases-loop-from : goal.decreases-loop-from
decreases-loop-from l = l.count - l.from
