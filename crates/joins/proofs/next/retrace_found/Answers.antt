-- `joins::next::retrace_found` meets its contract.
use native.Mathlib.Omega.{arith}
use Rattle.search.specs.Fronts.{best_of}
use Rattle.metal.proofs.Slices.{beyond_refl}
use Rattle.joins.specs.Traces.{Told}
use Rattle.joins.proofs.Records.{none_found, laid_end}
use Rattle.joins.proofs.next.retrace_found.Goals as goal

pub returns-in_err-cost : goal.returns-in_err-cost
unfolding Told best_of
returns-in_err-cost c =
    let ended = rw c.in_err-cost.was at c.requires.0 in
    record {
      told = rw c.from_residual.ensures (none_found _ _ c.args.prices.now.fits.good c.requires.2 ended (omega arith));
      laid = laid_end c.requires.0;
      kept = beyond_refl _ _;
    }

pub retrace-start-requires : goal.retrace-start-requires
unfolding best_of
retrace-start-requires c =
    let pre = c.requires in
    (pre.1 _ c.in_ok-cost.was, (_, rw c.in_ok-cost.was at pre.0), pre.2)

pub returns : goal.returns
unfolding Told
returns c =
    let (last, laid) = laid_end c.requires.0 in
    let led = c.retrace-start.ensures in
    record {
      told = (_, led.charted, led.start);
      laid = (last, led.laid _ last laid);
      kept = led.kept;
    }
