-- `router::sizing::maizespell_sizing` meets its contract.
use mathlib.Core.Path.{◌∙◌}
use Rattle.reader.proofs.Outcome.{zeros_bare}
use Rattle.router.proofs.Sizes.{sizing_told}
use Rattle.router.proofs.sizing.maizespell_sizing.Goals as goal

pub hold_job-requires : goal.hold_job-requires
hold_job-requires c = zeros_bare

pub returns : goal.returns
returns c = c.from.ensures ∙ sizing_told _ _ _ c.hold_job.ensures
