-- `search::reach::reach` meets its contract.
use native.Mathlib.Omega.{arith}
use Rattle.search.proofs.Reaching.{attempt_to, reach_not}
use Rattle.search.proofs.reach.reach.Goals as goal

pub try_move-attempt-requires : goal.try_move-attempt-requires
try_move-attempt-requires c =
    let pre = c.requires in
    (pre.0, omega (arith, pre.1.seated.room), pre.2)

pub returns-in_default : goal.returns-in_default
returns-in_default c =
    let pre = c.requires in
    let attempt = c.try_move-attempt.ensures in
    record {
      reached = reach_not _ _ c.args.prices.now.fits.good pre.0.good pre.1 pre.3 attempt c.in_default.is;
      owed = attempt.owed;
    }

pub arrive-reached-requires : goal.arrive-reached-requires
arrive-reached-requires c =
    let pre = c.requires in
    (pre.0, pre.1, (_, attempt_to _ _ _ c.try_move-attempt.ensures c.in-Some.is))

pub returns : goal.returns
returns c =
    let attempt = c.try_move-attempt.ensures in
    record {
      reached = c.arrive-reached.ensures _ (attempt_to _ _ _ attempt c.in-Some.is);
      owed = attempt.owed;
    }
