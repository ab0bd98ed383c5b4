-- `rules::overhead::too_short` meets its contract. Between turns of the outer loop the clear vertices beyond
-- so many ends are counted; at an end, those up to the last vertex are.
use Prim.Native.Nat.{◌+◌, ◌-◌}
use mathlib.Core.Path.{◌≡◌}
use Rattle.rules.specs.Seen.{view_by}
use Rattle.rules.specs.Structs.{direction_of, segment_of, heading_of}
use Rattle.rules.proofs.Runs.{OnTrack, Counting}
use Rattle.rules.proofs.Ends.{Counted}
use Rattle.rules.proofs.overhead.too_short.Given as goal

abbrev pub invariant-loop-count : goal.invariant-loop-count
invariant-loop-count l =
    (l.laid ≡ l.initial.laid + l._count)
    × OnTrack l.v l.track (λ g. Counting g (view_by g l.seen) (direction_of l.end.toward) (l.missing - l.initial.laid) l.initial.last l.track.stride l.last l._count)

abbrev pub invariant-ends : goal.invariant-ends
invariant-ends l =
    OnTrack l.v l.track (λ g. Counted g (view_by g l.seen) (heading_of (segment_of l.fn.segment)) l.missing l.length l.v l.end-index l.leaving l.laid)
