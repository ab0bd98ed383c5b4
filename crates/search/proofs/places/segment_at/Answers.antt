-- `search::places::segment_at` meets its contract, number by number.
use mathlib.Core.Path.{sym, ◌∙◌}
use Rattle.rules.specs.Structs.{direction_of, segment_of}
use Rattle.search.proofs.Numbers.{at_fresh, at_running, at_paid, at_low, at_high}
use Rattle.search.proofs.places.segment_at.Goals as goal

pub returns-then-code-eq0 : goal.returns-then-code-eq0
unfolding segment_of direction_of
returns-then-code-eq0 c = sym (at_fresh _ _ c.if-code-eq0.true)

pub returns-then-code-largest : goal.returns-then-code-largest
returns-then-code-largest c = c.running_at.ensures ∙ sym (at_running _ _ c.if-code-eq0.false c.if-code-largest.true)

pub returns-then-code-largest-2 : goal.returns-then-code-largest-2
unfolding segment_of direction_of
returns-then-code-largest-2 c = sym (at_paid _ _ c.if-code-eq0.false c.if-code-largest.false c.if-code-largest-2.true)

pub returns-then-code-largest-3 : goal.returns-then-code-largest-3
unfolding segment_of direction_of
returns-then-code-largest-3 c = sym (at_low _ _ c.if-code-eq0.false c.if-code-largest.false c.if-code-largest-2.false c.if-code-largest-3.true)

pub returns : goal.returns
unfolding segment_of direction_of
returns c = sym (at_high _ _ c.if-code-eq0.false c.if-code-largest.false c.if-code-largest-2.false c.if-code-largest-3.false)
