-- `search::tries::try_move` meets its contract: a step along the track, or a via.
use mathlib.Core.Path.{sym, ap, subst, ◌∙◌}
use Rattle.rules.specs.Structs.{kind_by, Via}
use Rattle.rules.proofs.Entering.{via_told}
use Rattle.search.proofs.Reaching.{attempt_told}
use Rattle.search.proofs.tries.try_move.Goals as goal

pub try_via-requires : goal.try_via-requires
try_via-requires c =
    let pre = c.requires in
    (pre.0, pre.1, pre.2, subst Via c.kind_of.ensures (via_told _ c.in_default.not-Along))

pub returns-in_default : goal.returns-in_default
returns-in_default c = c.try_via.ensures

pub try_along-requires : goal.try_along-requires
unfolding kind_by
try_along-requires c = (c.requires.0, sym c.kind_of.ensures ∙ ap kind_by c.in-Along.is)

pub returns : goal.returns
returns c = attempt_told _ _ _ c.try_along.ensures c.requires.2
