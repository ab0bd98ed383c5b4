-- `counts::moves::add_count` meets its contract.
use Prim.Native.Nat.{◌+◌, ◌*◌}
use mathlib.Core.Path.{refl}
use native.Mathlib.Omega.{arith}
use Rattle.counts.specs.Counts.{counted}
use Rattle.counts.proofs.moves.add_count.Goals as goal

pub overflow_add-counts : goal.overflow_add-counts
overflow_add-counts c = omega (arith, c.requires.1, c.requires.2.each (6 * c.args.layer + c.place-place.result))

pub returns : goal.returns
unfolding counted
returns c = rw c.place-place.ensures.0 refl
