-- `search::lead::lowest_among` meets its contract.
use borrow.Author.Tests.{eqb-false}
use mathlib.Core.Path.{◌≡◌, sym, ◌∙◌}
use native.Mathlib.Omega.{arith}
use Rattle.std.proofs.lemmas.Option.{none-some}
use Rattle.search.proofs.Leading.{untried_begun, untried_on, untried_skip, untried_here, untried_none}
use Rattle.search.proofs.lead.lowest_among.Goals as goal
use Rattle.search.proofs.lead.lowest_among.Goals.{then-has_move+else-leads, else-has_move}

pub loop-number-init : goal.loop-number-init
loop-number-init c = untried_begun _ _ _ _ _ _ _ _

pub leads-requires : goal.leads-requires
leads-requires c = let pre = c.requires in (pre.0, pre.1)

pub returns-then-leads : goal.returns-then-leads
returns-then-leads c =
    let args = c.args in
    let more = c.loop-number-test.true in
    let lowest = untried_here _ _ args.spots.now args.bounds.now.entries args.work.now args.best _ c.loop-number.invariant more c.leads.ensures c.if-leads.true in
    record { some = λ m is. let same : c.loop-number.number ≡ m = cc in (omega (arith, same, more), sym same ∙ lowest); none = λ is. absurd (none-some _ (sym is)) }

pub loop-number-preserved : goal.loop-number-preserved
loop-number-preserved c =
    let inv = c.loop-number.invariant in
    let more = c.loop-number-test.true in
    let args = c.args in
    elim c.if-has_move.branch [
      | then-has_move+else-leads did ↦ untried_on _ _ _ _ _ _ _ inv more did.leads.ensures did.if-leads.false
      | else-has_move not ↦ untried_skip _ _ args.spots.now args.bounds.now.entries args.work.now args.best _ inv args.moves c.requires.2 more
          (eqb-false _ 1 (sym c.has_move.ensures ∙ not.if-has_move.false))
    ]

pub returns : goal.returns
returns c =
    let args = c.args in
    let lowest = untried_none _ _ args.spots.now args.bounds.now.entries args.work.now args.best _ c.loop-number.invariant c.loop-number-test.false in
    record { some = λ m is. absurd (none-some _ is); none = λ is. lowest }
