-- `search::places::place_of` meets its contract.
use mathlib.Core.Path.{refl}
use Rattle.rules.specs.Places.{place_at}
use Rattle.search.proofs.places.place_of.Goals as goal

pub returns : goal.returns
unfolding place_at
returns c = rw c.segment_at.ensures refl
