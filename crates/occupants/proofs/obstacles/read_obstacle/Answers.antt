-- `occupants::obstacles::read_obstacle` meets its contract: a cut group, an obstacle that is not all inside,
-- and one that is.
use mathlib.Core.Path.{sym, ◌∙◌}
use Rattle.occupants.proofs.CoverTurns.{group_run, read_cut, read_outside, read_inside}
use Rattle.occupants.proofs.obstacles.read_obstacle.Goals as goal

pub returns-in_default : goal.returns-in_default
returns-in_default c = rw c.at.ensures (read_cut _ _ _ (sym c.obstacle_group.ensures ∙ c.in_default.is))

pub obstacle_inside-requires : goal.obstacle_inside-requires
obstacle_inside-requires c =
    (c.requires.0, group_run _ _ (sym c.obstacle_group.ensures ∙ c.in-Some.is))

pub returns-then-not-obstacle_inside : goal.returns-then-not-obstacle_inside
returns-then-not-obstacle_inside c =
    rw c.at-then-not-obstacle_inside.ensures
    (read_outside _ _ _ (sym c.obstacle_group.ensures ∙ c.in-Some.is)
    (sym c.if-not-obstacle_inside.ensures))

pub returns : goal.returns
returns c =
    read_inside _ _ _ (sym c.obstacle_group.ensures ∙ c.in-Some.is)
    (sym c.if-not-obstacle_inside.ensures)
