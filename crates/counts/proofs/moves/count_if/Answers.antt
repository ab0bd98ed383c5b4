-- `counts::moves::count_if` meets its contract.
use Rattle.counts.specs.Counts.{one_if}
use Rattle.counts.proofs.Counting.{none_more}
use Rattle.counts.proofs.moves.count_if.Goals as goal

pub returns-then-test : goal.returns-then-test
unfolding one_if
returns-then-test c = rw c.if-test.true c.add_count.ensures

pub returns-else-test : goal.returns-else-test
returns-else-test c = rw c.if-test.false (none_more _ _ _)
