-- `search::clear::clear_list` meets its contract: so far so many settled places, and the words of the list,
-- are zero.
use Prim.Native.Nat.{◌+◌, ◌-◌}
use Rattle.search.specs.Lists.{list_at}
use Rattle.search.proofs.Clearing.{Clearing}
use Rattle.search.proofs.clear.clear_list.Given as goal

abbrev pub invariant-loop-at : goal.invariant-loop-at
invariant-loop-at l = Clearing l.n l.settled (λ i. l.n + l.n - 1 - i) (list_at l.n l.initial.work) l.initial.work l.at l.work
