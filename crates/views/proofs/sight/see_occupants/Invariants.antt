-- `views::sight::see_occupants` meets its contract: the vertices below have their bytes.
use mathlib.Core.Bool.{not}
use lib.ListN.{get_or}
use lib.Dec.{eqb}
use Rattle.views.specs.Sight.{seen_byte}
use Rattle.views.proofs.Sights.{MadeTo}
use Rattle.views.proofs.sight.see_occupants.Given as goal

abbrev pub invariant-loop-v : goal.invariant-loop-v
invariant-loop-v l = MadeTo (λ w. seen_byte (not (eqb (get_or l.occupants w 0) 0)) (not (eqb (get_or l.map w 0) 0)) (not l.inside)) l.initial.seen l.seen l.v
