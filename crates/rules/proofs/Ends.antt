-- The two ends of a segment, and the clear vertices beyond them.
--     end_vertex, end_toward                  the vertex of an end, and the direction that leads on from it
--     EndRead, leaving_read, starting_read    what the code has read of an end
--     end_read                                and of the one whose turn it is
--     Back, way_back                          how far the first vertex lies back
--     Counted, counted-begun, _on,            so many ends are counted
--         _within
--     Both, counted_done                      both are
--     run_whole                               a clear run is as long as it is
use Prim.Native.Nat.{ℕ, zero, suc, ◌+◌, ◌-◌, ◌*◌, ◌≤◌, ◌<◌, min}
use mathlib.Core.Path.{◌≡◌, refl, sym, ap, ◌∙◌}
use mathlib.Core.List.{List, [], ◌∷◌}
use mathlib.Core.Bool.{Bool, true, false}
use native.Mathlib.Omega.{arith}
use lib.ListN.{length}
use Rattle.std.proofs.Common.{slice_index_or}
use Rattle.job.specs.Grid.{Grid, vertices, stride_of}
use Rattle.job.specs.Structs.{grid_of}
use Rattle.job.specs.declared.grid.Grid.{Grid as GridStruct}
use Rattle.job.specs.declared.grid.Vertex.{Vertex as VertexStruct}
use Rattle.rules.specs.Tracks.{Entered, outside, at, entered}
use Rattle.rules.specs.Views.{View}
use Rattle.rules.specs.Segments.{Direction, low, opposite}
use Rattle.rules.specs.Overheads.{clear, toward, on_from, clear_run, first_of}
use Rattle.rules.specs.Structs.{direction_of, opposite_to, room_in, EndOn, leaving_end, starting_end}
use Rattle.rules.specs.declared.segment.Direction.{Direction as DirectionEnum}
use Rattle.rules.specs.declared.segment.Direction.TheVariants.{Low, High}
use Rattle.rules.specs.declared.track.Track.{Track}
use Rattle.rules.specs.declared.end.End.{End}
use Rattle.rules.proofs.Fitting.{TrackRead}
use Rattle.rules.proofs.Rooms.{room_read, run_within}
use Rattle.rules.proofs.Firsts.{distance, first_on, first_near}

-- the vertex of an end: the last vertex, then the first
unfoldable pub end_vertex : Grid → Direction → (n v which : ℕ) → ℕ
end_vertex g d n v zero = v
end_vertex g d n v (suc which) = first_of g d n v

-- the direction that leads on from it
unfoldable pub end_toward : Direction → (which : ℕ) → Direction
end_toward d zero = d
end_toward d (suc which) = opposite d

-- the other direction, as the code holds it
opposite_is : (d : DirectionEnum) → direction_of (opposite_to d) ≡ opposite (direction_of d)
unfolding direction_of opposite_to opposite
opposite_is Low = refl
opposite_is High = refl

-- what the code has read of an end: its vertex, and the direction that leads on from it
pub record EndRead (g : Grid) (stride v : ℕ) (d : Direction) (e : End) : Type 0 where
  pub on : EndOn g stride e
  pub vertex : e.vertex ≡ v
  pub toward : direction_of e.toward ≡ d

module _ {g : GridStruct} {v : ℕ} {from : VertexStruct} {track : Track} (h : v < vertices (grid_of g)) (r : TrackRead g v from track)
    (d : DirectionEnum) (n : ℕ) where
  -- the starting end's vertex is the first
  starting_vertex : (starting_end track v d n).vertex ≡ first_of (grid_of g) (direction_of d) n v
  unfolding starting_end
  starting_vertex =
      let first = first_on (grid_of g) (direction_of d) n v h in
      rw (opposite_is d, room_read (opposite (direction_of d)) r, r.stride) (sym first.number)

  -- the way back to it: how far, and that it is no lower than the grid goes
  back_distance : min n (room_in track (direction_of (opposite_to d))) * track.stride ≡ distance (grid_of g) (direction_of d) n v
  back_distance = rw (opposite_is d, room_read (opposite (direction_of d)) r, r.stride) refl

  pub record Back : Type 0 where
    pub near : min n (room_in track (direction_of (opposite_to d))) * track.stride < vertices (grid_of g)
    pub within : direction_of (opposite_to d) ≡ low → min n (room_in track (direction_of (opposite_to d))) * track.stride ≤ v

  pub way_back : Back
  way_back =
      let first = first_on (grid_of g) (direction_of d) n v h in
      record {
        near = rw back_distance (first_near (grid_of g) (direction_of d) n v h);
        within = rw (back_distance, opposite_is d) first.within;
      }

  -- the leaving end is at the last vertex
  pub leaving_read : EndRead (grid_of g) track.stride v (direction_of d) (leaving_end track v d)
  unfolding leaving_end
  leaving_read =
      record { on = record { on_grid = h; step = sym r.stride; room = room_read (direction_of d) r }; vertex = refl; toward = refl }

  -- and the starting end at the first, on the other way
  pub starting_read : EndRead (grid_of g) track.stride (first_of (grid_of g) (direction_of d) n v) (opposite (direction_of d)) (starting_end track v d n)
  unfolding starting_end
  starting_read =
      let first = first_on (grid_of g) (direction_of d) n v h in
      record {
        on = record {
          on_grid = rw starting_vertex first.on_grid;
          step = rw starting_vertex (ap (stride_of (grid_of g)) first.layer ∙ sym r.stride);
          room = rw (starting_vertex, opposite_is d) (omega (arith, room_read (opposite (direction_of d)) r, first.room));
        };
        vertex = starting_vertex;
        toward = opposite_is d;
      }

-- of the two ends in their order, the one whose turn it is
pub end_read : (g : Grid) (d : Direction) (n v which : ℕ) {stride : ℕ} {leaving starting : End} (other : End) → which < 2
    → EndRead g stride v d leaving → EndRead g stride (first_of g d n v) (opposite d) starting
    → EndRead g stride (end_vertex g d n v which) (end_toward d which) (slice_index_or (leaving ∷ starting ∷ []) which other)
unfolding end_vertex end_toward
end_read g d n v zero other h leaves starts = leaves
end_read g d n v (suc zero) other h leaves starts = starts
end_read g d n v (suc (suc which)) other h leaves starts = absurd (omega (arith, h))

module _ (g : Grid) (view : View) (d : Direction) (missing n v : ℕ) where
  -- both ends are counted: the clear vertices beyond the leaving end, and as many beyond the starting end as
  -- are still asked for
  pub record Both (leaving laid : ℕ) : Type 0 where
    pub order : leaving ≤ laid
    pub leaves : leaving ≡ length (clear_run g view d missing v)
    pub starts : laid - leaving ≡ length (clear_run g view (opposite d) (missing - leaving) (first_of g d n v))

  -- the clear vertices beyond so many ends are counted: those before the last of them, and all
  unfoldable pub Counted : (which leaving laid : ℕ) → Type 0
  Counted zero leaving laid = laid ≡ 0
  Counted (suc zero) leaving laid = laid ≡ length (clear_run g view d missing v)
  Counted (suc (suc which)) leaving laid = Both leaving laid

  -- beyond none
  pub counted-begun : Counted 0 0 0
  unfolding Counted
  counted-begun = refl

  -- one end more
  pub counted_on : (which leaving laid : ℕ) {stride count : ℕ} {e : End} → which < 2 → Counted which leaving laid
      → EndRead g stride (end_vertex g d n v which) (end_toward d which) e
      → length (clear_run g view (direction_of e.toward) (missing - laid) e.vertex) ≡ count → Counted (which + 1) laid (laid + count)
  unfolding Counted end_vertex end_toward
  counted_on zero leaving laid {count = count} h none end is =
      let all : missing - 0 ≡ missing = omega arith in
      let leaves : length (clear_run g view d missing v) ≡ count = rw (none, end.toward, end.vertex, all) at is in
      omega (arith, none, leaves)
  counted_on (suc zero) leaving laid {count = count} h leaves end is =
      let starts : length (clear_run g view (opposite d) (missing - laid) (first_of g d n v)) ≡ count = rw (end.toward, end.vertex) at is in
      record { order = omega arith; leaves = leaves; starts = omega (arith, starts) }
  counted_on (suc (suc which)) leaving laid h so_far end is = absurd (omega (arith, h))

  -- while an end is left, never more than are missing
  pub counted-within : (which leaving laid : ℕ) → which < 2 → v < vertices g → Counted which leaving laid → laid ≤ missing
  unfolding Counted
  counted-within zero leaving laid h there none = omega (arith, none)
  counted-within (suc zero) leaving laid h there leaves = omega (arith, leaves, run_within g view d missing v there)
  counted-within (suc (suc which)) leaving laid h there so_far = absurd (omega (arith, h))

  -- beyond both
  pub counted_done : (which leaving laid : ℕ) → 2 ≤ which → Counted which leaving laid → Both leaving laid
  unfolding Counted
  counted_done zero leaving laid h so_far = absurd (omega (arith, h))
  counted_done (suc zero) leaving laid h so_far = absurd (omega (arith, h))
  counted_done (suc (suc which)) leaving laid h so_far = so_far

-- a clear run is as long as it is
pub run_whole : (g : Grid) (view : View) (d : Direction) (k v : ℕ) → clear_run g view d (length (clear_run g view d k v)) v ≡ clear_run g view d k v
unfolding clear_run on_from
run_whole g view d zero v = refl
run_whole g view d (suc k) v = by (entered g v (toward d)) refl (run_whole g view d k)
  where
    by : (r : Entered) → entered g v (toward d) ≡ r → ((w : ℕ) → clear_run g view d (length (clear_run g view d k w)) w ≡ clear_run g view d k w)
        → clear_run g view d (length (on_from view (clear_run g view d k) r)) v ≡ on_from view (clear_run g view d k) r
    by outside e rest = refl
    by (at w) e rest = clearly (clear view w) refl
      where
        clearly : (b : Bool) → clear view w ≡ b
            → clear_run g view d (length {A = ℕ} (elim b [ true ↦ w ∷ clear_run g view d k w | false ↦ [] ])) v
            ≡ elim b [ true ↦ w ∷ clear_run g view d k w | false ↦ [] ]
        clearly true c = rw (e, on_from, c) (ap (λ (vs : List ℕ). w ∷ vs) (rest w))
        clearly false c = refl
