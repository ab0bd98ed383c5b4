-- `rules::end::End::leaving` meets its contract.
use mathlib.Core.Path.{refl}
use Rattle.rules.specs.Structs.{leaving_end}
use Rattle.rules.proofs.Fitting.{track_known}
use Rattle.rules.proofs.end.End.leaving.Goals as goal

pub room_toward-requires : goal.room_toward-requires
room_toward-requires c = let (grid, on, is) = c.requires in (track_known on is).on_track

pub returns : goal.returns
unfolding leaving_end
returns c = rw c.room_toward.ensures refl
