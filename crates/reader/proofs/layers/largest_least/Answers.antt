-- `reader::layers::largest_least` meets its contract: the chain folds the lines.
use mathlib.Core.Path.{ap, ◌∙◌}
use native.Mathlib.Omega.{arith}
use Rattle.std.proofs.Common.{unwrap_or, rules, tests}
use Rattle.std.proofs.lemmas.Iterator.{YieldsList-from_slice, YieldsList-from_map}
use Rattle.std.proofs.lemmas.Iterator.Consumers.{reduce_from_yields_List}
use Rattle.std.proofs.lemmas.List.Folds.{max_of_map}
use Rattle.job.specs.declared.groups.Layer.{Layer}
use Rattle.reader.proofs.Lines.{largest_fold}
use Rattle.reader.proofs.layers.largest_least.Goals as goal

pub returns : goal.returns
returns c =
    let lines = c.args.layers in
    c.unwrap_or.ensures
    ∙ ap (λ o. unwrap_or o 0) (reduce_from_yields_List _ c.map.result _ c.max.ensures.ran
    (YieldsList-from_map _ (λ (l : Layer). l.least) (YieldsList-from_slice lines cc) c.map.ensures.closure (λ l b q k. search (rules, tests))))
    ∙ max_of_map (λ (l : Layer). l.least) lines
    ∙ largest_fold 0 lines
    ∙ omega arith
