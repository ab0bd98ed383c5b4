-- `rules::step::step_from` meets its contract.
use mathlib.Core.Path.{sym}
use Rattle.rules.specs.Structs.{tech_by}
use Rattle.rules.proofs.Stepping.{step_shut, step_open}
use Rattle.rules.proofs.step.step_from.Goals as goal

pub entry_of-requires : goal.entry_of-requires
entry_of-requires c = c.requires.0

pub returns-in_err-entry : goal.returns-in_err-entry
unfolding tech_by
returns-in_err-entry c = rw c.from_residual.ensures (step_shut _ _ _ _ (sym c.in_err-entry.ensures))

pub by_segment-requires : goal.by_segment-requires
by_segment-requires c = c.requires

pub returns : goal.returns
unfolding tech_by
returns c =
    step_open _ _ _ _ (sym c.in_ok-entry.ensures)
    (rw (← c.kind_of.ensures) c.by_segment.ensures)
