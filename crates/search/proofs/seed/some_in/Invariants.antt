-- `search::seed::some_in` meets its contract.
use Rattle.search.proofs.Seeding.{Flagged}
use Rattle.search.proofs.seed.some_in.Given as goal

abbrev pub invariant-loop-i : goal.invariant-loop-i
invariant-loop-i l = Flagged l.spots l.from l.some l.i
