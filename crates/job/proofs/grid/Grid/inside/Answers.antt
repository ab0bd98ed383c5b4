-- `job::grid::Grid::inside` meets its contract.
use borrow.Author.Tests.{le-ltb, lt-ltb}
use Rattle.job.specs.Grid.{inside}
use Rattle.job.proofs.grid.Grid.inside.Goals as goal

pub returns-then-self-v : goal.returns-then-self-v
unfolding inside
returns-then-self-v c = rw (le-ltb _ _ c.if-self-v.true)

pub returns-then-self-v-2 : goal.returns-then-self-v-2
unfolding inside
returns-then-self-v-2 c = rw (lt-ltb _ _ c.if-self-v.false, le-ltb _ _ c.if-self-v-2.true)

pub returns : goal.returns
unfolding inside
returns c = rw (lt-ltb _ _ c.if-self-v.false, lt-ltb _ _ c.if-self-v-2.false)
