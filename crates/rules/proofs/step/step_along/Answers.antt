-- `rules::step::step_along` meets its contract: against the step before it is not legal.
use mathlib.Core.Path.{sym}
use Rattle.rules.specs.Structs.{grown_of}
use Rattle.rules.proofs.Stepping.{extension_none, along_back, along_to}
use Rattle.rules.proofs.step.step_along.Goals as goal

pub grow-requires : goal.grow-requires
grow-requires c = c.requires

pub returns-in_err-longer : goal.returns-in_err-longer
unfolding grown_of
returns-in_err-longer c = rw c.from_residual.ensures (along_back _ _ _ _ _ (sym (c.in_err-longer.ensures)))

pub returns : goal.returns
unfolding grown_of
returns c =
    along_to _ _ _ _ _ (extension_none c.default.ensures) (sym (c.in_ok-longer.ensures))
