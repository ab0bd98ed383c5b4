-- `rules::track::track_of` meets its contract.
use mathlib.Core.Path.{sym, ◌∙◌}
use Rattle.job.specs.Grid.{stride_of}
use Rattle.rules.proofs.track.track_of.Goals as goal

pub returns-then-steps_column : goal.returns-then-steps_column
unfolding stride_of
returns-then-steps_column c = rw (sym c.steps_column.ensures ∙ c.if-steps_column.true)

pub returns-else-steps_column : goal.returns-else-steps_column
unfolding stride_of
returns-else-steps_column c = rw (sym c.steps_column.ensures ∙ c.if-steps_column.false)
