-- `views::guide::guided_byte` meets its contract.
use mathlib.Core.Path.{refl}
use Rattle.views.specs.Sight.{guided_byte}
use Rattle.views.proofs.guide.guided_byte.Goals as goal

pub returns-then-found : goal.returns-then-found
unfolding guided_byte
returns-then-found c = rw c.if-found.true refl

pub returns-else-found : goal.returns-else-found
unfolding guided_byte
returns-else-found c = rw c.if-found.false refl
