-- Laws behind the proofs of obstacles.
--     cover_turn, cover_done, stride_within             covering a run: one vertex, none left, and the stride
--     run_first, run_outside, run_columns, run_rows     an obstacle by its first vertex and the room on its
--                                                       track
--     group_run, read_cut, read_outside, read_inside    reading an obstacle by its group
--     obstacle_told, read_fits                          an obstacle that was read is inside
--     obstacles_turn, obstacles_stop, obstacles_done    reading obstacles: one read, one refused, and none
--                                                       left
use Prim.Native.Nat.{ℕ, suc, ◌+◌, ◌-◌, ◌≤◌, ◌<◌}
use mathlib.Core.Path.{◌≡◌, refl, ap, sym, ◌∙◌}
use mathlib.Core.List.{List}
use mathlib.Core.Bool.{Bool, true, false, ◌&&◌, cond}
use native.Mathlib.Omega.{arith}
use Rattle.std.proofs.Common.{Some, None}
use lib.ListN.{set}
use lib.Dec.{T, leb}
use Rattle.bits.specs.Bits.{bits_of, whole}
use Rattle.job.specs.Lists.{all}
use Rattle.job.specs.Grid.{Grid, inside, steps_column, stride_of}
use Rattle.job.specs.Job.{Obstacle}
use Rattle.job.specs.Reading.{Read, refused, good, ◌>>=◌, ◌>>◌, rule, obstacle_at, covered, read_obstacle}
use Rattle.job.specs.Structs.{Small, grid_of, obstacle_of, obstacle_struct, obstacle_group}
use Rattle.occupants.specs.Structs.{obstacle_read}
use Rattle.occupants.specs.Occupants.{reached, stopped, and_then, cover_obstacle, cover_every, RunInside, cover_read, obstacles_from}
use Rattle.job.specs.declared.grid.Grid.{Grid as GridStruct}
use Rattle.job.specs.declared.groups.Obstacle.{Obstacle as ObstacleStruct}
use Rattle.job.proofs.Tests.{and_holds}
use Rattle.job.proofs.Grids.{room_high, all_inside}
use Rattle.job.proofs.Binds.{steps, made_refused, made_good}

-- ---- covering a run

-- with vertices left, the next lies in the array, and so do the rest; covering it leaves the rest
pub cover_turn : (stride done run at : ℕ) (m : List ℕ) → done < run → RunInside stride (run - done) at
    → (at < 16384) × RunInside stride (run - (done + 1)) (at + stride)
    × (cover_every stride (run - done) at m ≡ cover_every stride (run - (done + 1)) (at + stride) (set m at 1))
unfolding RunInside cover_every
cover_turn stride done run at m h =
    let more : run - done ≡ suc (run - (done + 1)) = omega arith in rw more (λ i. (i.0, i.1, refl))

-- with none left, the occupants stay
pub cover_done : (stride done run at : ℕ) (m : List ℕ) → run ≤ done → cover_every stride (run - done) at m ≡ m
unfolding cover_every
cover_done stride done run at m h = let none : run - done ≡ 0 = omega arith in rw none

-- the stride of a small grid is at most 256
pub stride_within : (g : GridStruct) (layer : ℕ) → Small g → stride_of (grid_of g) layer ≤ 256
unfolding stride_of
stride_within g layer small = by (steps_column (grid_of g) layer)
  where
    by : (c : Bool) → cond c 1 g.columns ≤ 256
    by true = omega arith
    by false = small.columns

-- ---- an obstacle by its first vertex and the room on its track

module _ (g : Grid) (o : Obstacle) (some : 1 ≤ o.run) where
  -- all of it is inside where its first vertex is and the track has room for it
  run_inside : all (inside g) (covered g o) ≡ (inside g o.first && leb o.run (room_high g o.first))
  unfolding covered
  run_inside = let e : o.run ≡ suc (o.run - 1) = omega arith in rw e (all_inside g o.first (o.run - 1))

  -- where all of it is inside, so is its first vertex
  pub run_first : T (all (inside g) (covered g o)) → T (inside g o.first)
  run_first h = ((and_holds (inside g o.first) (leb o.run (room_high g o.first))).0 (rw run_inside at h)).0

  -- with its first vertex outside, not all of it is inside
  pub run_outside : inside g o.first ≡ false → all (inside g) (covered g o) ≡ false
  run_outside out = rw (run_inside, out)

  -- with its first vertex inside, on a track that changes the column: the columns have room
  pub run_columns : inside g o.first ≡ true → steps_column g o.first.layer ≡ true
      → all (inside g) (covered g o) ≡ leb o.run (g.columns - o.first.column)
  unfolding room_high
  run_columns first steps = rw (run_inside, first, steps)

  -- with its first vertex inside, on a track that changes the row: the rows have room
  pub run_rows : inside g o.first ≡ true → steps_column g o.first.layer ≡ false
      → all (inside g) (covered g o) ≡ leb o.run (g.rows - o.first.row)
  unfolding room_high
  run_rows first steps = rw (run_inside, first, steps)

-- ---- reading an obstacle by its group

module _ (bytes : List ℕ) (at : ℕ) where
  -- a group that is cut is not whole
  group_cut : obstacle_group bytes at ≡ None → whole (bits_of bytes) at 27 ≡ false
  unfolding obstacle_group
  group_cut = by (whole (bits_of bytes) at 27)
    where
      by : (w : Bool) → cond w (Some (obstacle_struct (obstacle_at (bits_of bytes) at))) None ≡ None
          → w ≡ false
      by true e = cc
      by false e = refl

  -- a group with an obstacle is whole, and the obstacle is the one in its bits
  group-whole : {x : ObstacleStruct} → obstacle_group bytes at ≡ Some x
      → (whole (bits_of bytes) at 27 ≡ true) × (obstacle_at (bits_of bytes) at ≡ obstacle_of x)
  unfolding obstacle_group
  group-whole {x} = by (whole (bits_of bytes) at 27)
    where
      by : (w : Bool) → cond w (Some (obstacle_struct (obstacle_at (bits_of bytes) at))) None ≡ Some x
          → (w ≡ true) × (obstacle_at (bits_of bytes) at ≡ obstacle_of x)
      by true e = let same : obstacle_struct (obstacle_at (bits_of bytes) at) ≡ x = cc in (refl, ap obstacle_of same)
      by false e = (cc, cc)

  -- an obstacle covers at least one vertex
  pub group_run : {x : ObstacleStruct} → obstacle_group bytes at ≡ Some x → 1 ≤ x.run
  unfolding obstacle_at
  group_run e = omega (arith, ap (λ (o : Obstacle). o.run) (group-whole e).1)

module _ (bytes : List ℕ) (g : Grid) (at : ℕ) where
  -- a group that is cut is refused by 2
  pub read_cut : obstacle_group bytes at ≡ None
      → refused 2 at ≡ obstacle_read (read_obstacle (bits_of bytes) g 0 at)
  unfolding obstacle_read read_obstacle rule ◌>>=◌ ◌>>◌
  read_cut e = rw (group_cut bytes at e)

  -- an obstacle that is not all inside is refused by 6
  pub read_outside : {x : ObstacleStruct} → obstacle_group bytes at ≡ Some x
      → all (inside g) (covered g (obstacle_of x)) ≡ false
      → refused 6 at ≡ obstacle_read (read_obstacle (bits_of bytes) g 0 at)
  unfolding obstacle_read read_obstacle rule ◌>>=◌ ◌>>◌
  read_outside e out = rw ((group-whole bytes at e).0, (group-whole bytes at e).1, out)

  -- an obstacle that is all inside is read
  pub read_inside : {x : ObstacleStruct} → obstacle_group bytes at ≡ Some x
      → all (inside g) (covered g (obstacle_of x)) ≡ true
      → good x ≡ obstacle_read (read_obstacle (bits_of bytes) g 0 at)
  unfolding obstacle_read read_obstacle rule ◌>>=◌ ◌>>◌
  read_inside e fits = rw ((group-whole bytes at e).0, (group-whole bytes at e).1, fits)

-- ---- an obstacle that was read

-- what was read, from the form in which the code holds it
read_good : (r : Read Obstacle) {x : ObstacleStruct} → good x ≡ obstacle_read r → r ≡ good (obstacle_of x)
unfolding obstacle_read
read_good r e =
    let read = made_good obstacle_struct r e in
    read.1 ∙ ap (λ (o : ObstacleStruct). good (obstacle_of o)) (sym read.2)

-- an obstacle that was read covers at least one vertex, and all that it covers is inside
pub obstacle_told : (bits : List ℕ) (g : Grid) (after at : ℕ) {o : Obstacle} → read_obstacle bits g after at ≡ good o
    → (1 ≤ o.run) × T (all (inside g) (covered g o))
unfolding read_obstacle obstacle_at
obstacle_told bits g after at {o} e =
    let parts = simp steps at e in
    let this : obstacle_at bits at ≡ o = parts.1.1 in
    (omega (arith, ap (λ (x : Obstacle). x.run) this), rw this at parts.1.0)

-- the same of the struct that holds it
pub read_fits : (bits : List ℕ) (g : Grid) (at : ℕ) {x : ObstacleStruct} → good x ≡ obstacle_read (read_obstacle bits g 0 at)
    → (1 ≤ x.run) × T (all (inside g) (covered g (obstacle_of x)))
read_fits bits g at e = obstacle_told bits g 0 at (read_good _ e)

-- ---- reading obstacles

module _ (bits : List ℕ) (g : Grid) (done count at : ℕ) (m : List ℕ) where
  -- with obstacles left, one that is read is covered, and the rest are read after it
  pub obstacles_turn : {x : ObstacleStruct} → done < count → good x ≡ obstacle_read (read_obstacle bits g 0 at)
      → obstacles_from bits g (count - done) at m ≡ obstacles_from bits g (count - (done + 1)) (at + 27) (cover_obstacle g (obstacle_of x) m)
  unfolding obstacles_from and_then cover_read obstacle_read
  obstacles_turn h e =
      let more : count - done ≡ suc (count - (done + 1)) = omega arith in
      rw (more, read_good _ e)

  -- one that is refused ends the reading
  pub obstacles_stop : {n p : ℕ} → done < count → refused n p ≡ obstacle_read (read_obstacle bits g 0 at)
      → obstacles_from bits g (count - done) at m ≡ stopped n p m
  unfolding obstacles_from and_then cover_read obstacle_read
  obstacles_stop h e =
      let more : count - done ≡ suc (count - (done + 1)) = omega arith in
      rw (more, made_refused obstacle_struct _ e)

  -- with none left, reading has come to its end
  pub obstacles_done : count ≤ done → obstacles_from bits g (count - done) at m ≡ reached at m
  unfolding obstacles_from
  obstacles_done h = let none : count - done ≡ 0 = omega arith in rw none
