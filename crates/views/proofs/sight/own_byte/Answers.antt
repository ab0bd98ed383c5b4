-- `views::sight::own_byte` meets its contract.
use mathlib.Core.Path.{refl}
use native.Mathlib.Omega.{arith}
use Rattle.views.specs.Sight.{own_byte}
use Rattle.views.proofs.Flags.{flag_below}
use Rattle.views.proofs.sight.own_byte.Goals as goal

pub overflow_add-result : goal.overflow_add-result
overflow_add-result c = let taken = flag_below c.taken_by.result 2 c.flag_if.ensures in omega arith

pub returns : goal.returns
unfolding own_byte
returns c = rw (c.flag_if.ensures, c.taken_by.ensures) refl
