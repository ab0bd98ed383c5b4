-- `reader::layers::via_rule` meets its contract.
use borrow.Author.Tests.{eq-eqb, ne_eqb}
use Rattle.job.specs.Reading.{via_rule}
use Rattle.reader.proofs.layers.via_rule.Goals as goal

pub returns-then-after-eq0 : goal.returns-then-after-eq0
unfolding via_rule
returns-then-after-eq0 c = rw (eq-eqb _ _ c.if-after-eq0.true)

pub returns-else-after-eq0 : goal.returns-else-after-eq0
unfolding via_rule
returns-else-after-eq0 c = rw (ne_eqb _ _ c.if-after-eq0.false)
