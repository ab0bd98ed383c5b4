-- `search::retrace::retrace` meets its contract: so many settled places are not asked.
use Rattle.rules.specs.Structs.{tech_by, seen_by}
use Rattle.search.proofs.Retracing.Places.{Retracing}
use Rattle.search.proofs.retrace.retrace.Given as goal

abbrev pub invariant-loop-left : goal.invariant-loop-left
invariant-loop-left l =
    Retracing (tech_by l.prices.tech) (seen_by l.prices.tech l.seen) l.spots l.bounds.entries l.initial.work l.settled l.best l.near l.work l.left l.start
