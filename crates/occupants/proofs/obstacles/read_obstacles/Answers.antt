-- `occupants::obstacles::read_obstacles` meets its contract.
use Prim.Native.Nat.{◌-◌}
use mathlib.Core.Path.{◌≡◌, refl, ◌∙◌}
use native.Mathlib.Omega.{arith}
use Rattle.job.proofs.Refusals.{passed_on}
use Rattle.occupants.proofs.Answers.{told_at, told_refused}
use Rattle.occupants.proofs.CoverTurns.{read_fits, obstacles_turn, obstacles_stop, obstacles_done}
use Rattle.occupants.proofs.obstacles.read_obstacles.Goals as goal

pub loop-obstacle-init : goal.loop-obstacle-init
loop-obstacle-init c =
    let all : c.args.count - 0 ≡ c.args.count = omega arith in
    rw all (omega arith, refl)

pub returns-in_err-obstacle : goal.returns-in_err-obstacle
returns-in_err-obstacle c =
    let stop = obstacles_stop _ _ _ _ _ _ c.loop-obstacle-test.true c.in_err-obstacle.ensures in
    told_refused (c.loop-obstacle.invariant.1 ∙ stop) (passed_on _ _ c.from_residual.ensures)

pub cover_obstacle-requires : goal.cover_obstacle-requires
cover_obstacle-requires c =
    let fits = read_fits _ _ _ c.in_ok-obstacle.ensures in
    (c.requires.0, fits.0, fits.1)

pub loop-obstacle-preserved : goal.loop-obstacle-preserved
loop-obstacle-preserved c =
    let l = c.loop-obstacle in
    let turn = obstacles_turn _ _ _ _ _ l.occupants c.loop-obstacle-test.true c.in_ok-obstacle.ensures in
    (omega arith, l.invariant.1 ∙ rw c.cover_obstacle.ensures turn)

pub returns : goal.returns
returns c =
    told_at (c.loop-obstacle.invariant.1 ∙ obstacles_done _ _ _ _ _ _ c.loop-obstacle-test.false)
