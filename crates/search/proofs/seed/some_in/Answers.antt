-- `search::seed::some_in` meets its contract.
use mathlib.Core.Logic.{inl, inr}
use Rattle.search.proofs.Seeding.{flagged_begun, flagged_on, flagged_none}
use Rattle.search.proofs.seed.some_in.Goals as goal
use Rattle.search.proofs.seed.some_in.Goals.{then-spots-from-ne0, else-spots-from-ne0}

pub loop-i-init : goal.loop-i-init
loop-i-init c = flagged_begun _ _

pub loop-i-preserved : goal.loop-i-preserved
loop-i-preserved c =
    elim c.if-spots-from-ne0.branch [
      | then-spots-from-ne0 w ↦ flagged_on c.loop-i.invariant c.loop-i-test.true (inl (w.if-spots-from-ne0.true, w.some-is)) (λ stays. absurd (w.if-spots-from-ne0.true stays))
      | else-spots-from-ne0 w ↦ flagged_on {Set = ⊥} c.loop-i.invariant c.loop-i-test.true (inr (w.if-spots-from-ne0.false, w.some-is)) (λ stays. stays)
    ]

pub returns : goal.returns
returns c = flagged_none c.loop-i.invariant c.loop-i-test.false
