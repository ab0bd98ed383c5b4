-- `views::sight::taken_by` meets its contract.
use mathlib.Core.Path.{refl}
use borrow.Author.Tests.{eq-eqb, ne_eqb}
use Rattle.views.specs.Sight.{taken_code}
use Rattle.views.proofs.sight.taken_by.Goals as goal

pub returns-then-code-ne0 : goal.returns-then-code-ne0
unfolding taken_code
returns-then-code-ne0 c = rw (ne_eqb _ _ c.if-code-ne0.true) refl

pub returns-else-code-ne0 : goal.returns-else-code-ne0
unfolding taken_code
returns-else-code-ne0 c = rw (eq-eqb _ _ c.if-code-ne0.false) refl
