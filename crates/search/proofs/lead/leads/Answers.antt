-- `search::lead::leads` meets its contract: each way out by its law.
use native.Mathlib.Omega.{arith}
use Rattle.rules.proofs.Places.{code_below, places_small}
use Rattle.search.proofs.Asking.{vertex_here, code_asked, code_made, code_here, next_left, next_small, settled_here, settled_short, settled_fields, Led, led, led_not}
use Rattle.search.proofs.Leading.{lead_stopped, lead_goal, lead_bare, lead_led}
use Rattle.search.proofs.lead.leads.Goals as goal
use Rattle.search.proofs.lead.leads.Goals.{In-Some}

-- what the move leads to
leads-to : (c : In-Some) → Led c.requires.0 c.args.seen.now c.args.number c.in-Some.made
leads-to c = led c.requires.0 _ _ c.step_from.ensures c.in-Some.is

pub step_from-requires : goal.step_from-requires
step_from-requires c =
    let pre = c.requires in
    (settled_here pre.0, settled_short pre.0)

pub returns-in_default : goal.returns-in_default
returns-in_default c =
    let args = c.args in
    lead_stopped _ _ args.spots.now args.bounds.now.entries args.work.now args.best args.settled.distance
    (led_not c.requires.0 _ _ c.step_from.ensures c.in_default.is)

pub overflow_add-cost : goal.overflow_add-cost
overflow_add-cost c =
    let legal = leads-to (goal.at.overflow_add-cost c).In-Some in
    omega (arith, legal.price)

pub overflow_add-cost-2 : goal.overflow_add-cost-2
overflow_add-cost-2 c =
    let legal = leads-to (goal.at.overflow_add-cost-2 c).In-Some in
    omega (arith, c.requires.0.below, legal.price)

pub bounds-spots-vertex : goal.bounds-spots-vertex
bounds-spots-vertex c =
    let legal = leads-to (goal.at.bounds-spots-vertex c).In-Some in
    vertex_here c.args.prices.now.fits _ legal.good

pub returns-then-spots-vertex-eq-UNJOINED : goal.returns-then-spots-vertex-eq-UNJOINED
returns-then-spots-vertex-eq-UNJOINED c =
    let legal = leads-to (goal.at.returns-then-spots-vertex-eq-UNJOINED c).In-Some in
    let args = c.args in
    lead_goal _ _ args.spots.now args.bounds.now.entries args.work.now args.best args.settled.distance legal.leads c.if-spots-vertex-eq-UNJOINED.true

pub code_of-code-requires : goal.code_of-code-requires
code_of-code-requires c =
    let legal = leads-to (goal.at.code_of-code-requires c).In-Some in
    code_asked c.args.prices.now.fits _ legal.good

pub offset_bounds-work-code : goal.offset_bounds-work-code
offset_bounds-work-code c =
    let legal = leads-to (goal.at.offset_bounds-work-code c).In-Some in
    let good = legal.good in
    omega (arith, code_made c.args.prices.now.fits _ good c.code_of-code.ensures, code_below good, places_small c.args.prices.now.fits.good)

pub bounds-work-code : goal.bounds-work-code
bounds-work-code c =
    let legal = leads-to (goal.at.bounds-work-code c).In-Some in
    let good = legal.good in
    code_here c.args.prices.now.fits _ good c.code_of-code.ensures c.requires.1

pub returns-then-word-ne-LED : goal.returns-then-word-ne-LED
returns-then-word-ne-LED c =
    let legal = leads-to (goal.at.returns-then-word-ne-LED c).In-Some in
    let args = c.args in
    lead_bare _ _ args.spots.now args.bounds.now.entries args.work.now args.best args.settled.distance legal.leads c.if-spots-vertex-eq-UNJOINED.false
    (code_made c.args.prices.now.fits _ legal.good c.code_of-code.ensures) c.if-word-ne-LED.true

pub entered-left-requires : goal.entered-left-requires
entered-left-requires c = (c.args.prices.now.fits.sized.small, settled_fields c.requires.0)

pub overflow_mul-result : goal.overflow_mul-result
overflow_mul-result c =
    let legal = leads-to (goal.at.overflow_mul-result c).In-Some in
    omega (arith, c.requires.0.below, legal.price)

pub overflow_add-result : goal.overflow_add-result
overflow_add-result c =
    let legal = leads-to (goal.at.overflow_add-result c).In-Some in
    let pre = c.requires in
    let small = next_small c.args.prices.now.fits _ pre.0.good _ _ legal.leads _ pre.0.is c.entered-left.ensures c.args.bounds.now.small in
    omega (arith, pre.0.below, legal.price, small)

pub overflow_add-result-2 : goal.overflow_add-result-2
overflow_add-result-2 c =
    let legal = leads-to (goal.at.overflow_add-result-2 c).In-Some in
    let pre = c.requires in
    let small = next_small c.args.prices.now.fits _ pre.0.good _ _ legal.leads _ pre.0.is c.entered-left.ensures c.args.bounds.now.small in
    omega (arith, pre.0.below, legal.price, small)

pub overflow_mul-result-2 : goal.overflow_mul-result-2
overflow_mul-result-2 c =
    let legal = leads-to (goal.at.overflow_mul-result-2 c).In-Some in
    let pre = c.requires in
    let small = next_small c.args.prices.now.fits _ pre.0.good _ _ legal.leads _ pre.0.is c.entered-left.ensures c.args.bounds.now.small in
    omega (arith, pre.0.below, legal.price, small)

pub overflow_add-result-3 : goal.overflow_add-result-3
overflow_add-result-3 c =
    let legal = leads-to (goal.at.overflow_add-result-3 c).In-Some in
    let pre = c.requires in
    let small = next_small c.args.prices.now.fits _ pre.0.good _ _ legal.leads _ pre.0.is c.entered-left.ensures c.args.bounds.now.small in
    omega (arith, pre.0.below, legal.price, small)

pub returns : goal.returns
returns c =
    let legal = leads-to (goal.at.returns c).In-Some in
    let args = c.args in
    let pre = c.requires in
    lead_led _ _ args.spots.now args.bounds.now.entries args.work.now args.best args.settled.distance legal.leads c.if-spots-vertex-eq-UNJOINED.false
    (code_made c.args.prices.now.fits _ legal.good c.code_of-code.ensures)
    (next_left c.args.prices.now.fits _ pre.0.good _ _ legal.leads _ pre.0.is c.entered-left.ensures)
