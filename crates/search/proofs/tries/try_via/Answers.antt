-- `search::tries::try_via` meets its contract.
use mathlib.Core.Path.{refl, sym, ◌∙◌}
use native.Mathlib.Omega.{arith}
use Rattle.rules.specs.Structs.{tech_by}
use Rattle.rules.proofs.Prices.{entering_fits}
use Rattle.rules.proofs.Entering.{priced_shut, priced_via, entry_parts}
use Rattle.search.specs.Tries.{tried_of, OwedFor}
use Rattle.search.proofs.Asking.{settled_here}
use Rattle.search.proofs.Vias.{price_small}
use Rattle.search.proofs.Reaching.{via_passed, attempt_told, attempt_passed}
use Rattle.search.proofs.tries.try_via.Goals as goal

pub entry_of-requires : goal.entry_of-requires
entry_of-requires c = settled_here c.requires.0

pub returns-in_default : goal.returns-in_default
unfolding tried_of
returns-in_default c =
    attempt_told _ _ _ (priced_shut _ _ _ _ (sym c.entry_of.ensures ∙ c.in_default.is)) c.requires.2

pub passed_over-requires : goal.passed_over-requires
unfolding tech_by
passed_over-requires c =
    let pre = c.requires in
    let (enters, price) = entry_parts _ _ _ _ (sym c.entry_of.ensures ∙ c.in-Some.is) in
    (pre.0, pre.1, enters, omega (arith, (entering_fits _ _ c.args.prices.now.fits.good pre.0.good.vertex enters price).1))

pub returns-then-passed_over : goal.returns-then-passed_over
returns-then-passed_over c =
    let pre = c.requires in
    attempt_passed _ _ _ refl (via_passed _ _ _ (sym c.entry_of.ensures ∙ c.in-Some.is) pre.3 (c.passed_over.ensures c.if-passed_over.true)) pre.2

pub ask_owed-over-requires : goal.ask_owed-over-requires
ask_owed-over-requires c = let pre = c.requires in (pre.0, pre.2)

pub to_fresh-requires : goal.to_fresh-requires
unfolding tech_by
to_fresh-requires c =
    let pre = c.requires in
    let (enters, price) = entry_parts _ _ _ _ (sym c.entry_of.ensures ∙ c.in-Some.is) in
    (omega (arith, (entering_fits _ _ c.args.prices.now.fits.good pre.0.good.vertex enters price).1), λ over is. omega (arith, price_small pre.0 _ c.ask_owed-over.ensures is))

pub returns : goal.returns
unfolding OwedFor
returns c =
    let opens = sym c.entry_of.ensures ∙ c.in-Some.is in
    attempt_told _ _ _
    (c.to_fresh.ensures ∙ rw c.ask_owed-over.ensures (priced_via _ _ _ _ opens c.requires.3)) c.ask_owed-over.ensures
