-- `occupants::nets::read_pin` meets its contract: cut, outside, on an obstacle, on an earlier pin, or read
-- and put there.
use borrow.Author.Rules.{rules}
use mathlib.Core.Path.{sym, ◌∙◌, refl}
use Rattle.job.proofs.Sizes.{inside_fields}
use Rattle.occupants.proofs.Answers.{told_at, told_refused}
use Rattle.occupants.proofs.PinTurns.{pin_cut, pin_rules, index_below}
use Rattle.occupants.proofs.nets.read_pin.Goals as goal

pub returns-in_default : goal.returns-in_default
returns-in_default c = rw c.at.ensures (told_refused (pin_cut _ _ _ _ (sym c.vertex_group.ensures ∙ c.in_default.is)) refl)

pub returns-then-not-inside : goal.returns-then-not-inside
returns-then-not-inside c =
    let pin = pin_rules _ _ _ _ _ (sym c.vertex_group.ensures ∙ c.in-Some.is) in
    rw c.at-then-not-inside.ensures (told_refused (pin.outside (sym c.if-not-inside.ensures)) refl)

pub number-vertex-requires : goal.number-vertex-requires
number-vertex-requires c =
    let small = c.requires.0.small in
    (small, inside_fields _ _ small (rw (sym c.if-not-inside.ensures) tt))

pub bounds-occupants-vertex : goal.bounds-occupants-vertex
bounds-occupants-vertex c = index_below c.args.grid _ _ c.requires.0 (sym c.if-not-inside.ensures) c.number-vertex.ensures

pub returns-then-occupant-blocked : goal.returns-then-occupant-blocked
returns-then-occupant-blocked c =
    let pin = pin_rules _ _ _ _ _ (sym c.vertex_group.ensures ∙ c.in-Some.is) in
    told_refused (pin.blocked _ (sym c.if-not-inside.ensures) c.number-vertex.ensures c.if-occupant-blocked.true) (search rules)

pub returns-then-occupant-earlier : goal.returns-then-occupant-earlier
returns-then-occupant-earlier c =
    let pin = pin_rules _ _ _ _ _ (sym c.vertex_group.ensures ∙ c.in-Some.is) in
    told_refused (pin.taken _ (sym c.if-not-inside.ensures) c.number-vertex.ensures c.if-occupant-earlier.true) (search rules)

pub bounds-occupants-vertex-2 : goal.bounds-occupants-vertex-2
bounds-occupants-vertex-2 c = index_below c.args.grid _ _ c.requires.0 (sym c.if-not-inside.ensures) c.number-vertex.ensures

pub returns : goal.returns
returns c =
    let pin = pin_rules _ _ _ _ _ (sym c.vertex_group.ensures ∙ c.in-Some.is) in
    told_at (pin.fine _ (sym c.if-not-inside.ensures) c.number-vertex.ensures c.if-occupant-blocked.false c.if-occupant-earlier.false)
