-- `search::seed::seed_block` meets its contract.
use Rattle.rules.specs.Structs.{tech_by}
use Rattle.search.proofs.Seeding.{Blocked}
use Rattle.search.proofs.seed.seed_block.Given as goal

abbrev pub invariant-loop-vertex : goal.invariant-loop-vertex
invariant-loop-vertex l =
    Blocked (tech_by l.prices.tech) l.spots l.bounds.entries l.initial.work l.before l.from l.to l.work l.size l.vertex
