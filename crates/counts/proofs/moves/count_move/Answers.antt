-- `counts::moves::count_move` meets its contract: five counts, one after the other.
use mathlib.Core.Path.{ap}
use native.Mathlib.Omega.{arith}
use Rattle.rules.proofs.Fitting.{fits}
use Rattle.counts.proofs.Counting.{fit_under, fit_one, way_one, one_few, move_counted}
use Rattle.counts.proofs.moves.count_move.Goals as goal

pub count_way-requires : goal.count_way-requires
count_way-requires c =
    let pre = c.requires in
    let layer = (fits _ _ (record { small = pre.0.small; there = pre.2 })).layer in
    (pre.1, rw c.vertex_by-vertex.ensures layer, fit_under _ pre.5 (omega arith))

pub add_count-requires : goal.add_count-requires
add_count-requires c =
    let pre = c.requires in
    let one = fit_one _ _ c.count_way.ensures (rw way_one (omega arith)) pre.5 in
    (pre.1, pre.3, fit_under _ one (omega arith))

pub add_count-requires-2 : goal.add_count-requires-2
add_count-requires-2 c =
    let pre = c.requires in
    let one = fit_one _ _ c.count_way.ensures (rw way_one (omega arith)) pre.5 in
    let two = fit_one _ _ c.add_count.ensures (omega (arith, pre.3)) one in
    (pre.1, pre.4, fit_under _ two (omega arith))

pub count_if-requires : goal.count_if-requires
count_if-requires c =
    let pre = c.requires in
    let one = fit_one _ _ c.count_way.ensures (rw way_one (omega arith)) pre.5 in
    let two = fit_one _ _ c.add_count.ensures (omega (arith, pre.3)) one in
    let three = fit_one _ _ c.add_count-2.ensures (omega (arith, pre.4)) two in
    (rw c.vertex_by-vertex.ensures (fits _ _ (record { small = pre.0.small; there = pre.2 })).layer, fit_under _ three (omega arith))

pub count_if-requires-2 : goal.count_if-requires-2
count_if-requires-2 c =
    let pre = c.requires in
    let one = fit_one _ _ c.count_way.ensures (rw way_one (omega arith)) pre.5 in
    let two = fit_one _ _ c.add_count.ensures (omega (arith, pre.3)) one in
    let three = fit_one _ _ c.add_count-2.ensures (omega (arith, pre.4)) two in
    let four = fit_one _ _ c.count_if.ensures (one_few _) three in
    (rw c.vertex_by-vertex.ensures (fits _ _ (record { small = pre.0.small; there = pre.2 })).layer, fit_under _ four (omega arith))

pub returns : goal.returns
returns c =
    let pre = c.requires in
    let layer = ap (λ x. x.layer) c.vertex_by-vertex.ensures in record {
      layer = layer;
      counts = λ p left. move_counted _ _ p _ _ left layer pre.2 c.has-outside.ensures c.has-taken.ensures
          c.count_way.ensures
          c.add_count.ensures
          c.add_count-2.ensures
          c.count_if.ensures c.count_if-2.ensures;
    }
