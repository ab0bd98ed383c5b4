-- `search::reach::arrive` meets its contract.
use mathlib.Core.Path.{refl}
use native.Mathlib.Omega.{arith}
use borrow.Author.Tests.{eq-eqb, ne_eqb}
use Rattle.rules.proofs.Moves.{step_keeps, step_limits}
use Rattle.rules.proofs.Places.{code_below}
use Rattle.search.proofs.Asking.{vertex_here, code_asked, code_made, next_left, next_small, settled_fields}
use Rattle.search.proofs.Reaching.{reach_enters, reach_goes}
use Rattle.search.proofs.reach.arrive.Goals as goal

pub overflow_add-cost : goal.overflow_add-cost
overflow_add-cost c =
    let pre = c.requires in
    let fits = c.args.prices.now.fits in
    omega (arith, pre.0.below, step_limits _ _ _ fits.good pre.0.good pre.2.1)

pub bounds-spots-into : goal.bounds-spots-into
bounds-spots-into c =
    let pre = c.requires in
    let fits = c.args.prices.now.fits in
    vertex_here fits _ (step_keeps _ _ _ fits.good pre.0.good pre.2.1)

pub bounds-near-vertex : goal.bounds-near-vertex
bounds-near-vertex c =
    vertex_here c.args.prices.now.fits _ c.requires.0.good

pub bounds-near-vertex-then-spots-into-eq-UNJOINED : goal.bounds-near-vertex-then-spots-into-eq-UNJOINED
bounds-near-vertex-then-spots-into-eq-UNJOINED c =
    vertex_here c.args.prices.now.fits _ c.requires.0.good

pub returns-then-spots-into-eq-UNJOINED : goal.returns-then-spots-into-eq-UNJOINED
returns-then-spots-into-eq-UNJOINED c view leads =
    reach_enters leads (eq-eqb _ 2 c.if-spots-into-eq-UNJOINED.true) (omega arith) (rw c.with_move.ensures refl)

pub code_of-code-requires : goal.code_of-code-requires
code_of-code-requires c =
    let pre = c.requires in
    let fits = c.args.prices.now.fits in
    code_asked fits _ (step_keeps _ _ _ fits.good pre.0.good pre.2.1)

pub entered-left-requires : goal.entered-left-requires
entered-left-requires c = (c.args.prices.now.fits.sized.small, settled_fields c.requires.0)

pub overflow_mul-cost : goal.overflow_mul-cost
overflow_mul-cost c =
    let pre = c.requires in
    let fits = c.args.prices.now.fits in
    omega (arith, pre.0.below, step_limits _ _ _ fits.good pre.0.good pre.2.1)

pub overflow_add-cost-2 : goal.overflow_add-cost-2
overflow_add-cost-2 c =
    let pre = c.requires in
    let fits = c.args.prices.now.fits in
    omega (arith, pre.0.below, step_limits _ _ _ fits.good pre.0.good pre.2.1, next_small fits _ pre.0.good _ _ pre.2.1 _ pre.0.is c.entered-left.ensures c.args.bounds.now.small)

pub lower-requires : goal.lower-requires
lower-requires c =
    let pre = c.requires in
    let fits = c.args.prices.now.fits in
    let good = step_keeps _ _ _ fits.good pre.0.good pre.2.1 in (
      rw c.places-n.ensures pre.1,
      omega (arith, code_made fits _ good c.code_of-code.ensures, code_below good, c.places-n.ensures),
      omega (arith, pre.0.below, step_limits _ _ _ fits.good pre.0.good pre.2.1, next_small fits _ pre.0.good _ _ pre.2.1 _ pre.0.is c.entered-left.ensures c.args.bounds.now.small),
    )

pub returns : goal.returns
returns c view leads =
    let pre = c.requires in
    let fits = c.args.prices.now.fits in
    let good = step_keeps _ _ _ fits.good pre.0.good leads in
    reach_goes leads (ne_eqb _ 2 c.if-spots-into-eq-UNJOINED.false)
    (rw (← c.places-n.ensures, ← next_left fits _ pre.0.good _ _ leads _ pre.0.is c.entered-left.ensures, ← code_made fits _ good c.code_of-code.ensures) c.lower.ensures)
