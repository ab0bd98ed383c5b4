-- `search::settle::settle` meets its contract: places are settled in the order of their keys.
use Prim.Native.Nat.{◌+◌, ◌-◌}
use Rattle.metal.specs.Codes.{Beyond}
use Rattle.rules.specs.Joins.{places}
use Rattle.rules.specs.Structs.{tech_by, seen_by}
use Rattle.search.specs.Spreads.{Between}
use Rattle.search.proofs.settle.settle.Given as goal

abbrev pub invariant-loop-front : goal.invariant-loop-front
invariant-loop-front l =
    Between (tech_by l.prices.tech) (seen_by l.prices.tech l.seen) l.spots l.bounds.entries l.near l.work l.front.size l.settled l.front.best
    × Beyond (places (tech_by l.prices.tech) + places (tech_by l.prices.tech)) l.work l.initial.work

abbrev pub decreases-loop-front : goal.decreases-loop-front
decreases-loop-front l = l.n - l.settled
