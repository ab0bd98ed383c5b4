-- Walking a track by its stride.
--     next_toward               the next vertex
--     room_enters, room_ends    what a step enters where the track goes on, and where it ends
--     Onward, onward            the next vertex: of the grid, on the same track, with one step less of room
--     room_read                 the room, by what the code has read of the track
--     run_on, run_stops         a clear run from a vertex, by whether the next one is clear
--     run_within                a clear run is no longer than it may be, nor than the room
use Prim.Native.Nat.{ℕ, zero, suc, ◌≤◌, ◌<◌, min}
use mathlib.Core.Path.{◌≡◌, refl, sym, ap}
use mathlib.Core.List.{[], ◌∷◌}
use mathlib.Core.Bool.{Bool, true, false}
use native.Mathlib.Omega.{arith}
use lib.ListN.{length}
use borrow.Author.Tests.{lt-ltb, le-ltb}
use Rattle.job.specs.Grid.{Grid, vertices, stride_of}
use Rattle.job.specs.Structs.{grid_of}
use Rattle.job.specs.declared.grid.Grid.{Grid as GridStruct}
use Rattle.job.specs.declared.grid.Vertex.{Vertex as VertexStruct}
use Rattle.rules.specs.Tracks.{layer_of, track_index, track_length, outside, at, if_there, entered}
use Rattle.rules.specs.Structs.{length_on, room_in, room_toward, next_on}
use Rattle.rules.specs.Views.{View}
use Rattle.rules.specs.Segments.{Direction, low, high}
use Rattle.rules.specs.Overheads.{clear, toward, on_from, clear_run}
use Rattle.rules.specs.declared.track.Track.{Track}
use Rattle.rules.proofs.Neighbours.{low_enters, high_enters}
use Rattle.rules.proofs.Fitting.{TrackRead}

-- the next vertex in a direction, by the stride of the vertex's layer
abbrev pub next_toward : Grid → Direction → (v : ℕ) → ℕ
next_toward g d v = next_on (stride_of g (layer_of g v)) d v

-- where the track goes on, a step enters the next vertex
pub room_enters : (g : Grid) (d : Direction) (v : ℕ) → 0 < room_toward g d v → entered g v (toward d) ≡ at (next_toward g d v)
unfolding room_toward toward entered if_there next_on
room_enters g low v room = rw (lt-ltb 0 (track_index g v) room) refl
room_enters g high v room = rw (lt-ltb (suc (track_index g v)) (track_length g v) (omega (arith, room))) refl

-- where the track ends, a step leaves the grid
pub room_ends : (g : Grid) (d : Direction) (v : ℕ) → room_toward g d v ≡ 0 → entered g v (toward d) ≡ outside
unfolding room_toward toward entered if_there
room_ends g low v none = rw (le-ltb 0 (track_index g v) (omega (arith, none))) refl
room_ends g high v none = rw (le-ltb (suc (track_index g v)) (track_length g v) (omega (arith, none))) refl

-- a step from v along the track to w
pub record Onward (g : Grid) (d : Direction) (v w : ℕ) : Type 0 where
  pub on_grid : w < vertices g
  pub room : room_toward g d v ≡ suc (room_toward g d w)
  pub layer : layer_of g w ≡ layer_of g v
  pub within : d ≡ low → stride_of g (layer_of g v) ≤ v

-- where the track goes on, the next vertex is one step along it
pub onward : (g : Grid) (d : Direction) {v : ℕ} → v < vertices g → 0 < room_toward g d v → Onward g d v (next_toward g d v)
unfolding room_toward toward track_length
onward g low {v} h room =
    let one = low_enters g h (room_enters g low v room) in
    let stride = ap (stride_of g) one.layer in
    record { on_grid = one.lower; room = one.index; layer = sym one.layer; within = λ e. omega (arith, one.number, stride) }
onward g high {v} h room =
    let one = high_enters g h (room_enters g high v room) in
    let length : track_length g (next_toward g high v) ≡ track_length g v = ap (length_on g) one.layer in
    record { on_grid = one.upper; room = omega (arith, one.index, one.room, length); layer = one.layer; within = λ e. let z : ◌≡◌ {A = ℕ} 0 1 = cc in omega arith }

-- the room from a vertex, by what the code has read of its track
pub room_read : (d : Direction) {g : GridStruct} {v : ℕ} {from : VertexStruct} {track : Track} → TrackRead g v from track
    → room_in track d ≡ room_toward (grid_of g) d v
unfolding room_in room_toward
room_read low r = r.index
room_read high r = omega (arith, r.index, r.length)

module _ (g : Grid) (view : View) (d : Direction) (k v : ℕ) (room : 0 < room_toward g d v) where
  -- where the next vertex is clear, the run has it and goes on from it
  pub run_on : clear view (next_toward g d v) ≡ true → clear_run g view d (suc k) v ≡ next_toward g d v ∷ clear_run g view d k (next_toward g d v)
  unfolding clear_run on_from
  run_on is-clear = rw (room_enters g d v room, on_from, is-clear) refl

  -- where it is not, the run is empty
  pub run_stops : clear view (next_toward g d v) ≡ false → clear_run g view d (suc k) v ≡ []
  unfolding clear_run on_from
  run_stops unclear = rw (room_enters g d v room, on_from, unclear) refl

-- a clear run is no longer than it may be, nor than the room
pub run_within : (g : Grid) (view : View) (d : Direction) (k v : ℕ) → v < vertices g → length (clear_run g view d k v) ≤ min k (room_toward g d v)
unfolding clear_run on_from
run_within g view d zero v h = omega arith
run_within g view d (suc k) v h = by (room_toward g d v) refl (run_within g view d k)
  where
    by : (room : ℕ) → room_toward g d v ≡ room → ((w : ℕ) → w < vertices g → length (clear_run g view d k w) ≤ min k (room_toward g d w))
        → length (clear_run g view d (suc k) v) ≤ min (suc k) (room_toward g d v)
    by zero e rest = rw (room_ends g d v e) (omega arith)
    by (suc n) e rest =
        let room : 0 < room_toward g d v = omega (arith, e) in
        let on = onward g d h room in
        clearly (clear view (next_toward g d v)) refl room on (rest (next_toward g d v) on.on_grid)
      where
        clearly : (b : Bool) → clear view (next_toward g d v) ≡ b → 0 < room_toward g d v → Onward g d v (next_toward g d v)
            → length (clear_run g view d k (next_toward g d v)) ≤ min k (room_toward g d (next_toward g d v))
            → length (clear_run g view d (suc k) v) ≤ min (suc k) (room_toward g d v)
        clearly true c room on fewer = omega (arith, ap length (run_on g view d k v room c), on.room, fewer)
        clearly false c room on fewer = omega (arith, ap length (run_stops g view d k v room c))
