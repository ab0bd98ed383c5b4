-- `reader::whole::read_groups` meets its contract: the obstacles are refused, the nets are, or the tail is
-- read.
use mathlib.Core.Path.{sym}
use native.Mathlib.Omega.{arith}
use Rattle.job.specs.Reading.{obstacles_at}
use Rattle.job.proofs.Refusals.{passed_on}
use Rattle.occupants.proofs.Answers.{told, told_refused, ends_at}
use Rattle.reader.proofs.WholeTurns.{obstacles_end, nets_end, groups_blocked, groups_stopped, groups_through}
use Rattle.reader.proofs.whole.read_groups.Goals as goal

pub read_obstacles-requires : goal.read_obstacles-requires
read_obstacles-requires c =
    let pre = c.requires in
    (pre.1, pre.3, omega (arith, pre.1.small.layers))

pub returns-in_err-nets_at : goal.returns-in_err-nets_at
unfolding obstacles_at
returns-in_err-nets_at c =
    let obstacles = c.in_err-nets_at.ensures in
    told_refused (groups_blocked _ _ _ obstacles.occupants obstacles.answer) (passed_on _ _ c.from_residual.ensures)

pub read_nets-requires : goal.read_nets-requires
read_nets-requires c =
    let position = ends_at _ (obstacles_end _ _ _ _ _) (sym c.in_ok-nets_at.ensures.answer) in
    let pre = c.requires in
    (pre.1, pre.2, omega (arith, position, pre.1.small.layers, pre.3))

pub returns-in_err-end : goal.returns-in_err-end
unfolding obstacles_at
returns-in_err-end c =
    let obstacles = c.in_ok-nets_at.ensures in
    let nets = c.in_err-end.ensures in
    told_refused (groups_stopped _ _ _ obstacles.occupants obstacles.answer nets.occupants nets.answer)
    (passed_on _ _ c.from_residual-in_err-end.ensures)

pub read_tail-requires : goal.read_tail-requires
read_tail-requires c =
    let position = ends_at _ (obstacles_end _ _ _ _ _) (sym c.in_ok-nets_at.ensures.answer) in
    let end = ends_at _ (nets_end _ _ _ _ _) (sym c.in_ok-end.ensures.answer) in
    let pre = c.requires in
    (pre.0, omega (arith, position, end, pre.1.small.layers, pre.2, pre.3))

pub returns : goal.returns
unfolding obstacles_at
returns c =
    let obstacles = c.in_ok-nets_at.ensures in
    let nets = c.in_ok-end.ensures in
    told (groups_through _ _ _ obstacles.occupants obstacles.answer nets.occupants nets.answer c.read_tail.ensures)
