-- `occupants::nets::read_net` meets its contract: a head that is cut, a pin that is refused, or the boxes'
-- answer.
use mathlib.Core.Path.{refl, sym, ◌∙◌}
use native.Mathlib.Omega.{arith}
use Rattle.job.proofs.Refusals.{passed_on}
use Rattle.occupants.proofs.Answers.{told, told_refused}
use Rattle.occupants.proofs.PinTurns.{pins_position}
use Rattle.occupants.proofs.NetTurns.{net_cut, net_counts, net_rules}
use Rattle.occupants.proofs.nets.read_net.Goals as goal

pub returns-in_default : goal.returns-in_default
returns-in_default c = rw c.at.ensures (told_refused (net_cut _ _ _ _ (sym c.net_group.ensures ∙ c.in_default.is)) refl)

pub read_pins-requires : goal.read_pins-requires
read_pins-requires c = (
  c.requires.0,
  (net_counts _ _ _ (sym c.net_group.ensures ∙ c.in-Some.is)).pins,
  omega arith,
)

pub returns-in_err-boxes_at : goal.returns-in_err-boxes_at
returns-in_err-boxes_at c =
    let rules = net_rules _ _ _ _ _ (sym c.net_group.ensures ∙ c.in-Some.is) in
    let pins = c.in_err-boxes_at.ensures in
    told_refused (rules.blocked _ _ _ pins.answer pins.occupants) (passed_on _ _ c.from_residual.ensures)

pub read_boxes-requires : goal.read_boxes-requires
read_boxes-requires c =
    let counts = net_counts _ _ _ (sym c.net_group.ensures ∙ c.in-Some.is) in
    let position = pins_position _ _ _ _ _ c.in_ok-boxes_at.ensures.answer in
    (counts.boxes, omega (arith, counts.pins, c.requires.1))

pub returns : goal.returns
returns c =
    let rules = net_rules _ _ _ _ _ (sym c.net_group.ensures ∙ c.in-Some.is) in
    let pins = c.in_ok-boxes_at.ensures in
    told (rules.fine _ _ _ pins.answer pins.occupants c.read_boxes.ensures)
