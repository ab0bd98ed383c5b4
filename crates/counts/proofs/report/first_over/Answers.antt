-- `counts::report::first_over` meets its contract.
use mathlib.Core.Path.{ap, sym, ◌∙◌}
use native.Mathlib.Omega.{arith}
use borrow.Author.Rules.{rules}
use Rattle.std.proofs.Common.{tests}
use Rattle.std.proofs.lemmas.Iterator.{YieldsList-from_slice, YieldsList-from_zip}
use Rattle.std.proofs.lemmas.Iterator.Search.{position_from_yields_List}
use Rattle.counts.specs.Structs.{over_at}
use Rattle.counts.proofs.Reporting.{over_pair, first_told}
use Rattle.counts.proofs.report.first_over.Goals as goal

pub returns : goal.returns
returns c =
    let report = c.args.report.now in
    let counts = c.args.counts.now in
    let found = position_from_yields_List over_pair c.position.new.self _ c.position.result c.position.ensures.ran
    (YieldsList-from_zip {s = c.zip.result} (YieldsList-from_slice report (cc)) (YieldsList-from_slice counts (cc))) (λ x b q k. search (rules, tests)) in
    first_told report counts c.requires c.told-counts (λ i. omega (arith, c.type_inv.report i)) ∙ ap over_at (sym found)
