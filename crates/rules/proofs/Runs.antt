-- Counting the clear vertices beyond a vertex.
--     OnTrack                         a fact of every grid of which the code has read the vertex's track
--     Counting, counting_begun        the count so far
--     counting_next                   the next vertex to count
--     counting_on                     one clear vertex more
--     counting_unclear, _full         the count is done
use Prim.Native.Nat.{ℕ, suc, ◌+◌, ◌-◌, ◌≤◌, ◌<◌, min}
use mathlib.Core.Path.{◌≡◌, sym, ap, ◌∙◌}
use mathlib.Core.Bool.{true, false}
use native.Mathlib.Omega.{arith}
use lib.ListN.{length}
use Rattle.job.specs.Grid.{Grid, vertices, stride_of}
use Rattle.job.specs.Structs.{grid_of}
use Rattle.job.specs.declared.grid.Grid.{Grid as GridStruct}
use Rattle.rules.specs.Tracks.{layer_of, vertex_by}
use Rattle.rules.specs.Views.{View}
use Rattle.rules.specs.Segments.{Direction}
use Rattle.rules.specs.Overheads.{clear, clear_run}
use Rattle.rules.specs.Structs.{OnGrid, track_of, room_toward, next_on}
use Rattle.rules.specs.declared.track.Track.{Track}
use Rattle.rules.proofs.Rooms.{next_toward, Onward, onward, run_on, run_stops, run_within}

-- a fact of every grid of which the code has read the vertex's track (the loops no longer hold the grid)
abbrev pub OnTrack : (v : ℕ) → Track → (Grid → Type 0) → Type 0
OnTrack v track fact = (g : GridStruct) → OnGrid g v → track ≡ track_of (grid_of g) (vertex_by (grid_of g) v) → fact (grid_of g)

module _ (g : Grid) (view : View) (d : Direction) (most v : ℕ) where
  -- how many clear vertices lie beyond one, at most k
  abbrev pub run : (k from : ℕ) → ℕ
  run k from = length (clear_run g view d k from)

  -- the count so far: the vertices up to the last one are clear
  pub record Counting (stride last count : ℕ) : Type 0 where
    pub on_grid : last < vertices g
    pub step : stride_of g (layer_of g last) ≡ stride
    pub within : count ≤ most
    pub room : room_toward g d v ≡ count + room_toward g d last
    pub rest : run most v ≡ count + run (most - count) last

  -- nothing is counted yet
  pub counting_begun : {stride : ℕ} → v < vertices g → stride_of g (layer_of g v) ≡ stride → Counting stride v 0
  counting_begun on by =
      let all : most - 0 ≡ most = omega arith in
      record { on_grid = on; step = by; within = omega arith; room = omega arith; rest = rw all (omega arith) }

  module _ {stride last count : ℕ} (so_far : Counting stride last count) where
    -- as many are counted as are asked for, or the track ends
    pub counting_full : min most (room_toward g d v) ≤ count → run most v ≡ count
    counting_full h =
        let few = run_within g view d (most - count) last so_far.on_grid in
        omega (arith, h, so_far.rest, so_far.room, few)

    module _ {w : ℕ} (h : count < min most (room_toward g d v)) (is : w ≡ next_on stride d last) where
      -- the track goes on
      goes_on_lem : 0 < room_toward g d last
      goes_on_lem = omega (arith, so_far.room, h)

      -- the next vertex by the stride of the track is the next of the last one's layer
      same_next : next_toward g d last ≡ w
      same_next = ap (λ (s : ℕ). next_on s d last) so_far.step ∙ sym is

      -- the next vertex is one step along the track
      pub counting_next : Onward g d last w
      counting_next = rw same_next at (onward g d so_far.on_grid goes_on_lem)

      -- the rest of the count, with its first vertex apart
      one_apart : run (most - count) last ≡ run (suc (most - suc count)) last
      one_apart = let one : most - count ≡ suc (most - suc count) = omega (arith, h) in ap (λ (k : ℕ). run k last) one

      -- "the first vertex that isn't clear stops the count"
      pub counting_unclear : clear view w ≡ false → run most v ≡ count
      counting_unclear unclear =
          let none = run_stops g view d (most - suc count) last goes_on_lem (rw same_next unclear) in
          omega (arith, so_far.rest, one_apart, ap length none)

      -- one clear vertex more
      pub counting_on : clear view w ≡ true → Counting stride w (count + 1)
      counting_on is-clear =
          let more = run_on g view d (most - suc count) last goes_on_lem (rw same_next is-clear) in
          let next : count + 1 ≡ suc count = omega arith in
          let on = counting_next in
          record {
            on_grid = on.on_grid;
            step = ap (stride_of g) on.layer ∙ so_far.step;
            within = omega (arith, h);
            room = omega (arith, so_far.room, on.room);
            rest = rw next (omega (arith, so_far.rest, one_apart, rw same_next at (ap length more)));
          }
