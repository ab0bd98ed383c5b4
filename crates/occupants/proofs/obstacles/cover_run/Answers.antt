-- `occupants::obstacles::cover_run` meets its contract.
use Prim.Native.Nat.{◌-◌}
use mathlib.Core.Path.{◌≡◌, refl, sym, ◌∙◌}
use native.Mathlib.Omega.{arith}
use Rattle.occupants.proofs.CoverTurns.{cover_turn, cover_done}
use Rattle.occupants.proofs.obstacles.cover_run.Goals as goal

pub loop-covered-init : goal.loop-covered-init
loop-covered-init c =
    let all : c.args.run - 0 ≡ c.args.run = omega arith in
    rw all (c.requires.1, refl)

pub bounds-occupants-at : goal.bounds-occupants-at
bounds-occupants-at c =
    (cover_turn _ _ _ _ c.loop-covered.occupants c.loop-covered-test.true c.loop-covered.invariant.0).0

pub overflow_add-at : goal.overflow_add-at
overflow_add-at c =
    omega (arith, (cover_turn _ _ _ _ c.loop-covered.occupants c.loop-covered-test.true c.loop-covered.invariant.0).0)

pub loop-covered-preserved : goal.loop-covered-preserved
loop-covered-preserved c =
    let turn = cover_turn _ _ _ _ c.loop-covered.occupants c.loop-covered-test.true c.loop-covered.invariant.0 in
    (turn.1, c.loop-covered.invariant.1 ∙ turn.2)

pub returns : goal.returns
returns c = sym (c.loop-covered.invariant.1 ∙ cover_done _ _ _ _ _ c.loop-covered-test.false)
