-- `rules::list::extras_of` meets its contract.
use native.Mathlib.Omega.{arith}
use Rattle.rules.proofs.Lists.{filled_none, filled_turn, priced}
use Rattle.rules.proofs.list.extras_of.Goals as goal

pub loop-byte-init : goal.loop-byte-init
loop-byte-init c = filled_none _ _ _

pub bounds-extras-byte : goal.bounds-extras-byte
bounds-extras-byte c = omega (arith, c.loop-byte.invariant.size, c.loop-byte-test.true)

pub loop-byte-preserved : goal.loop-byte-preserved
loop-byte-preserved c = filled_turn _ _ _ c.loop-byte.invariant (omega arith) (omega (arith, c.loop-byte-test.true)) c.extra_field.ensures

pub returns : goal.returns
returns c = priced c.loop-byte.invariant c.loop-byte-test.false
