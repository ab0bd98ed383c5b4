-- `replay::join::end_join` meets its contract.
use native.Mathlib.Omega.{arith}
use Rattle.replay.specs.Structs.{MovesFit, JoinFits}
use Rattle.replay.proofs.Parts.{read_good, passed_same}
use Rattle.replay.proofs.Joining.{cost_next, ended_refused, ended_other, ended_same}
use Rattle.replay.proofs.join.end_join.Goals as goal

pub returns-in_err-walk : goal.returns-in_err-walk
unfolding JoinFits
returns-in_err-walk c = rw (passed_same c.from_residual.ensures) (record {
  answer = ended_refused _ _ c.in_err-walk.was;
  fits = tt;
})

pub returns-in_err-next : goal.returns-in_err-next
unfolding JoinFits
returns-in_err-next c = rw (passed_same c.from_residual-in_err-next.ensures) (record {
  answer = ended_other _ _ c.in_ok-walk.was c.read_cost.ensures c.in_err-next.was;
  fits = tt;
})

pub returns : goal.returns
unfolding JoinFits MovesFit
returns c =
    let moves = c.in_ok-walk.was in
    let cost = c.read_cost.ensures in record {
      answer = ended_same _ _ moves cost c.in_ok-next.was;
      fits = (
        rw moves at c.requires.1,
        omega (arith, cost_next _ _ _ (read_good cost c.in_ok-next.was)),
      );
    }
