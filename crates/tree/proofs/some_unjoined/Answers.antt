-- `tree::some_unjoined` meets its contract.
use borrow.Author.Rules.{rules}
use Prim.Native.Nat.{◌<◌}
use mathlib.Core.Path.{◌∙◌}
use native.Mathlib.Omega.{arith}
use lib.ListN.{get_or, take}
use lib.Dec.{eqb}
use Rattle.std.proofs.Common.{tests}
use Rattle.std.proofs.lemmas.Iterator.{YieldsList-from_slice}
use Rattle.std.proofs.lemmas.Iterator.Adapters.{serves_from_places}
use Rattle.std.proofs.lemmas.Iterator.Search.{any_from_yields_List}
use Rattle.rules.proofs.Standing.{all_at}
use Rattle.tree.proofs.Turns.{some_told}
use Rattle.tree.proofs.some_unjoined.Goals as goal

pub any-requires-clause-callable : goal.any-requires-clause-callable
any-requires-clause-callable c =
    let pins = take c.args.count c.args.pins.now in
    serves_from_places {all = pins} (YieldsList-from_slice _ cc) (λ x q r. search (rules, tests))
    (λ x k on e _ _ _ _ _ _. omega (arith, all_at (λ v. v < 16384) pins k x.now c.requires.on_grid on, e))

pub returns : goal.returns
returns c =
    any_from_yields_List (λ v. eqb (get_or c.args.spots.now v 0) 2) _ _ _ c.any.ensures.ran (YieldsList-from_slice _ cc) (λ x b q k. search (rules, tests))
    ∙ some_told c.args.spots.now _
