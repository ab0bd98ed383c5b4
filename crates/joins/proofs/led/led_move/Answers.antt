-- `joins::led::led_move` meets its contract.
use mathlib.Core.Path.{sym}
use Rattle.rules.specs.Structs.{stepped_by}
use Rattle.search.proofs.Asking.{vertex_on, segment_short, code_asked, code_here}
use Rattle.joins.proofs.Followed.{lead_read}
use Rattle.joins.proofs.led.led_move.Goals as goal

pub code_of-requires : goal.code_of-requires
code_of-requires c = code_asked c.args.prices.now.fits _ c.requires.1

pub lead_at-number-requires : goal.lead_at-number-requires
lead_at-number-requires c = code_here c.args.prices.now.fits _ c.requires.1 c.code_of.ensures c.requires.0

pub step-requires : goal.step-requires
step-requires c =
    let fits = c.args.prices.now.fits in
    ((vertex_on fits _ c.requires.1).there, segment_short fits _ c.requires.1)

pub unreachable-requires : goal.unreachable-requires
unfolding stepped_by
unreachable-requires c =
    let pre = c.requires in
    let told = lead_read c.args.prices.now.fits _ _ pre.1 c.code_of.ensures c.lead_at-number.ensures in
    let stepped = rw c.in_default.is at c.step.ensures in
    pre.2 (rw (← told) (sym stepped.same))

pub returns : goal.returns
returns c =
    record {
      number = lead_read c.args.prices.now.fits _ _ c.requires.1 c.code_of.ensures c.lead_at-number.ensures;
      stepped = rw c.in-Some.is at c.step.ensures;
    }
