-- `views::sight::byte_of` meets its contract.
use mathlib.Core.Bool.{not}
use native.Mathlib.Omega.{arith}
use lib.Dec.{eqb}
use Rattle.views.proofs.Flags.{flag_below, byte_flags}
use Rattle.views.proofs.sight.byte_of.Goals as goal

pub overflow_add-result : goal.overflow_add-result
overflow_add-result c =
    let blocked = flag_below _ 1 c.flag_if-blocked.ensures in
    let taken = flag_below (not (eqb c.args.code 0)) 2 c.flag_if-taken.ensures in
    omega arith

pub overflow_add-result-2 : goal.overflow_add-result-2
overflow_add-result-2 c =
    let args = c.args in
    let blocked = flag_below _ 1 c.flag_if-blocked.ensures in
    let taken = flag_below (not (eqb args.code 0)) 2 c.flag_if-taken.ensures in
    let outside = flag_below (not args.inside) 4 c.flag_if.ensures in
    omega arith

pub returns : goal.returns
returns c = byte_flags _ _ _ c.flag_if-blocked.ensures c.flag_if-taken.ensures c.flag_if.ensures
