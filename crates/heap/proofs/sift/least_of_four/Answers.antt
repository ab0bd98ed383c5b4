-- `heap::sift::least_of_four` meets its contract: the lesser of the two that each pair leaves.
use mathlib.Core.Path.{refl}
use Rattle.heap.proofs.Rows.{lowest_four}
use Rattle.heap.proofs.sift.least_of_four.Goals as goal

pub returns-then-min : goal.returns-then-min
returns-then-min c =
    (lowest_four c.requires refl c.word_at-a.ensures c.word_at-b.ensures c.word_at-c.ensures c.word_at-d.ensures c.from.ensures c.from-2.ensures c.min-2.ensures c.min.ensures).0 c.if-min.true

pub returns-else-min : goal.returns-else-min
returns-else-min c =
    (lowest_four c.requires refl c.word_at-a.ensures c.word_at-b.ensures c.word_at-c.ensures c.word_at-d.ensures c.from.ensures c.from-2.ensures c.min-2.ensures c.min.ensures).1 c.if-min.false
