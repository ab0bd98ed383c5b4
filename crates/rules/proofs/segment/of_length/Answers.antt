-- `rules::segment::of_length` meets its contract.
use borrow.Author.Tests.{le-leb, lt-leb}
use Rattle.rules.specs.Segments.{of_length}
use Rattle.rules.specs.Structs.{segment_of}
use Rattle.rules.proofs.segment.of_length.Goals as goal

pub returns-then-least-length : goal.returns-then-least-length
unfolding of_length segment_of
returns-then-least-length c = rw (le-leb _ _ c.if-least-length.true)

pub returns-else-least-length : goal.returns-else-least-length
unfolding of_length segment_of
returns-else-least-length c = rw (lt-leb _ _ c.if-least-length.false)
