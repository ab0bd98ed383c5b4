-- `search::places::code_of` meets its contract.
use mathlib.Core.Path.{refl}
use native.Mathlib.Omega.{arith}
use Rattle.rules.specs.Places.{code_by}
use Rattle.rules.proofs.Places.{segment_below}
use Rattle.search.proofs.Numbers.{vertex_fits}
use Rattle.search.proofs.places.code_of.Goals as goal

pub overflow_mul-result-2 : goal.overflow_mul-result-2
overflow_mul-result-2 c = omega (arith, vertex_fits c.requires.2 c.requires.1)

pub overflow_add-result-2 : goal.overflow_add-result-2
overflow_add-result-2 c =
    let pre = c.requires in
    omega (arith, vertex_fits pre.2 pre.1, c.segment_code.ensures, segment_below _ _ pre.3)

pub returns : goal.returns
unfolding code_by
returns c =
    rw c.segment_code.ensures refl
