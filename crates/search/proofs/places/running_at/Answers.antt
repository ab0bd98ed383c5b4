-- `search::places::running_at` meets its contract.
use mathlib.Core.Path.{refl}
use borrow.Author.Tests.{eq-eqb, ne_eqb}
use Rattle.rules.specs.Places.{running_at}
use Rattle.rules.specs.Structs.{direction_of, segment_of}
use Rattle.search.proofs.places.running_at.Goals as goal

pub returns-then-code-eq0 : goal.returns-then-code-eq0
unfolding segment_of direction_of running_at
returns-then-code-eq0 c = rw (eq-eqb _ _ c.if-code-eq0.true) refl

pub returns : goal.returns
unfolding segment_of direction_of running_at
returns c = rw (ne_eqb _ _ c.if-code-eq0.false) refl
