-- `rules::segment::not_against` meets its contract.
use mathlib.Core.Path.{sym, ◌∙◌}
use Rattle.rules.specs.Segments.{not_against}
use Rattle.rules.specs.Structs.{grown_of}
use Rattle.rules.proofs.segment.not_against.Goals as goal

pub returns-then-against : goal.returns-then-against
unfolding not_against grown_of
returns-then-against c = rw (sym c.against.ensures ∙ c.if-against.true)

pub returns-else-against : goal.returns-else-against
unfolding not_against grown_of
returns-else-against c = rw (sym c.against.ensures ∙ c.if-against.false)
