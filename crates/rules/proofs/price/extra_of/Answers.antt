-- `rules::price::extra_of` meets its contract.
use mathlib.Core.Path.{◌∙◌, ap}
use Rattle.rules.specs.PriceLists.{extra_in}
use Rattle.rules.specs.Structs.{cost_of}
use Rattle.rules.proofs.Held.{from_cost}
use Rattle.rules.proofs.price.extra_of.Goals as goal

pub returns : goal.returns
unfolding extra_in
returns c = ap cost_of c.from_field.ensures ∙ from_cost _
