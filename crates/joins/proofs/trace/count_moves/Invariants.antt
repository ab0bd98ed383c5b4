-- `joins::trace::count_moves` meets its contract: the moves so far, then the rest, are the route.
use Prim.Native.Nat.{ℕ, ◌-◌}
use mathlib.Core.List.{List}
use Rattle.rules.specs.Joins.{places}
use Rattle.rules.specs.Structs.{tech_by, seen_by, place_of}
use Rattle.search.specs.Charts.{Charted}
use Rattle.joins.proofs.Tracing.{Counting}
use Rattle.joins.proofs.trace.count_moves.Given as goal

abbrev pub invariant-loop-place : goal.invariant-loop-place
invariant-loop-place l =
    (bounds : List ℕ) × (best : ℕ) × (Charted (tech_by l.prices.tech) (seen_by l.prices.tech l.seen) l.spots bounds l.work best)
    × (Counting (tech_by l.prices.tech) (seen_by l.prices.tech l.seen) l.spots bounds l.work best l.start (place_of l.place) l.count)

abbrev pub decreases-loop-place : goal.decreases-loop-place
decreases-loop-place l =
    places (tech_by l.prices.tech) - l.count
