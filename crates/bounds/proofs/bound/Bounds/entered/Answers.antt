-- `bounds::bound::Bounds::entered` meets its contract: each kind of move by its law.
use mathlib.Core.Path.{sym, ap, ◌∙◌}
use Rattle.rules.specs.Segments.{low, high}
use Rattle.rules.specs.Structs.{kind_by, next_on}
use Rattle.bounds.proofs.Coordinates.{via_on, changed, bound_along, bound_via}
use Rattle.bounds.proofs.bound.Bounds.entered.Goals as goal

pub returns-in-Along : goal.returns-in-Along
unfolding kind_by
returns-in-Along c v w on is e =
    let step = sym c.kind_of-kind.ensures ∙ ap kind_by c.in-Along.is in
    c.sum_along.ensures ∙ bound_along _ _ _ v w is _ step _ c.steps_column-columns.ensures (changed _ _ on e)

pub returns-in-Down : goal.returns-in-Down
unfolding kind_by via_on next_on
returns-in-Down c v w on is e =
    let goes = sym c.kind_of-kind.ensures ∙ ap kind_by c.in-Down.is in
    c.sum_at.ensures ∙ bound_via _ _ _ v w is low goes (changed _ _ on e)

pub returns-in-Up : goal.returns-in-Up
unfolding kind_by via_on next_on
returns-in-Up c v w on is e =
    let goes = sym c.kind_of-kind.ensures ∙ ap kind_by c.in-Up.is in
    c.sum_at-in-Up.ensures ∙ bound_via _ _ _ v w is high goes (changed _ _ on e)
