-- `replay::whole::end_plan` meets its contract.
use mathlib.Core.Path.{refl, sym, ◌∙◌}
use native.Mathlib.Omega.{arith}
use Rattle.replay.specs.Structs.{NetFits, IsEnded}
use Rattle.replay.proofs.Wholes.{end_tail, end_good}
use Rattle.replay.proofs.whole.end_plan.Goals as goal

pub zero_tail-requires : goal.zero_tail-requires
unfolding NetFits
zero_tail-requires g c = let fits = rw c.in-Ok.is at c.requires in omega (arith, fits.reach)

pub returns-in-Err : goal.returns-in-Err
unfolding IsEnded
returns-in-Err g c = rw c.in-Err.is refl

pub returns-then-not-zero_tail : goal.returns-then-not-zero_tail
unfolding IsEnded
returns-then-not-zero_tail g c = rw (c.in-Ok.is, c.at.ensures) (end_tail _ refl (sym c.zero_tail.ensures ∙ c.if-not-zero_tail.true))

pub returns : goal.returns
unfolding IsEnded
returns g c = rw c.in-Ok.is (end_good _ refl (sym c.zero_tail.ensures ∙ c.if-not-zero_tail.false))
