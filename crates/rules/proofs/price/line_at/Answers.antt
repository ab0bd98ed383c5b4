-- `rules::price::line_at` meets its contract.
use mathlib.Core.Path.{refl}
use Rattle.job.specs.Structs.{no_line}
use Rattle.rules.specs.Structs.{line_at}
use Rattle.rules.proofs.price.line_at.Goals as goal

pub returns : goal.returns
unfolding line_at no_line
returns c = refl
