-- `rules::seen::clear` meets its contract.
use mathlib.Core.Path.{refl, sym, ◌∙◌}
use Rattle.rules.specs.Seen.{clear_byte}
use Rattle.rules.proofs.seen.clear.Goals as goal

pub returns-then-has : goal.returns-then-has
unfolding clear_byte
returns-then-has c = rw (sym c.has.ensures ∙ c.if-has.true) refl

pub returns : goal.returns
unfolding clear_byte
returns c = rw (c.has-2.ensures, sym c.has.ensures ∙ c.if-has.false) refl
