-- `search::clear::clear_heap` meets its contract: so far so many items of the heap, and the words that name
-- them, are zero.
use Prim.Native.Nat.{◌+◌}
use Rattle.heap.specs.Heaps.{item_at}
use Rattle.search.proofs.Clearing.{Clearing}
use Rattle.search.proofs.clear.clear_heap.Given as goal

abbrev pub invariant-loop-at : goal.invariant-loop-at
invariant-loop-at l = Clearing l.n l.size (λ i. l.n + i) (λ i. item_at l.initial.work l.n i) l.initial.work l.at l.work
