-- `views::sight::see_net` meets its contract.
use borrow.Author.Rules.{rules}
use Rattle.reader.proofs.Loaded.{all_below_lem}
use Rattle.views.proofs.Seen.{seen_view}
use Rattle.views.proofs.sight.see_net.Goals as goal

pub open_pins-requires : goal.open_pins-requires
open_pins-requires c = let pre = c.requires in (all_below_lem pre.sized.0.vertices _ pre.all, all_below_lem pre.sized.1 _ pre.all)

pub returns : goal.returns
returns c = λ j k metal. seen_view _ c.see_grid.ensures (search rules) c.open_pins.ensures
