-- `views::sight::see_occupants` meets its contract.
use native.Mathlib.Omega.{arith}
use Rattle.views.proofs.Sights.{made_begin, made_turn, made_end}
use Rattle.views.proofs.sight.see_occupants.Goals as goal

pub loop-v-init : goal.loop-v-init
loop-v-init c = made_begin _ _

pub loop-v-preserved : goal.loop-v-preserved
loop-v-preserved c = made_turn _ c.loop-v.invariant (omega arith) c.byte_of.ensures

pub shape_of-seen : goal.shape_of-seen
shape_of-seen c = c.loop-v.invariant.size

pub returns : goal.returns
returns c = made_end _ c.loop-v.invariant (omega arith)
