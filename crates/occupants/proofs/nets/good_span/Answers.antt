-- `occupants::nets::good_span` meets its contract.
use borrow.Author.Tests.{le-leb, lt-leb}
use Rattle.job.specs.Reading.{good_span}
use Rattle.occupants.proofs.nets.good_span.Goals as goal

pub returns-then-span : goal.returns-then-span
unfolding good_span
returns-then-span c = rw (lt-leb _ _ c.if-span.true)

pub returns : goal.returns
unfolding good_span
returns c = rw (le-leb _ _ c.if-span.false)
