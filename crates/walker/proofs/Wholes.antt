-- A whole job: from its reading to the map before the first net, and from the last net to the map at the end.
--     plan_grid, plan_room, pins_held     what laying the pins asks
--     laid_kept, nets_held, after_long    what going through the nets asks, and that the map has room after
--                                         them
--     read_grid, finished_map_lem         the map with obstacles put in is the job's
--     count-zeroed, bare_long             by a count of the vertices
use Prim.Native.Nat.{ℕ, ◌≤◌}
use mathlib.Core.Path.{◌≡◌, sym, ap, subst, ◌∙◌}
use mathlib.Core.List.{List, ◌++◌}
use native.Mathlib.Omega.{arith}
use lib.ListN.{length, drop}
use Rattle.job.specs.Grid.{Grid, vertices}
use Rattle.job.specs.Job.{Job}
use Rattle.job.specs.Good.{all_pins}
use Rattle.job.specs.Reading.{good, read_job}
use Rattle.job.specs.Structs.{grid_of}
use Rattle.occupants.specs.Occupants.{Occupants}
use Rattle.rules.specs.Prices.{tech_of}
use Rattle.rules.specs.Standings.{metal_at_first}
use Rattle.rules.specs.Maps.{map_of}
use Rattle.rules.specs.Structs.{tech_by}
use Rattle.rules.specs.declared.price.Tech.{Tech as TechStruct}
use Rattle.metal.specs.Codes.{Codes, Beyond, Bare, with_obstacles}
use Rattle.job.specs.Slices.{zeroed}
use Rattle.metal.specs.Jobs.{JobHeld}
use Rattle.metal.proofs.Slices.{beyond_trans, zeroed_bare, zeroed-beyond}
use Rattle.metal.proofs.Finished.{map_finished}
use Rattle.walker.specs.Structs.{NetsHeld, PlanHeld}

module _ (bytes : List ℕ) (tech : TechStruct) (occupants : List ℕ) (found : List ℕ) (count start : ℕ) (held : PlanHeld bytes tech occupants found count start) where
  -- the code's grid is the job's
  plan_grid : grid_of tech.grid ≡ held.job.grid
  unfolding tech_by tech_of
  plan_grid = λ i. (held.layers i).grid

  -- the map has room
  pub plan_room : vertices (grid_of tech.grid) ≤ length found
  plan_room = rw plan_grid held.room

  -- what laying the pins asks
  pub pins_held : JobHeld bytes tech.grid count start
  pins_held = record { job = held.job; read = held.read; grid = sym plan_grid; nets = held.nets; from = held.from }

  module _ {bare laid : List ℕ} (zeros : bare ≡ zeroed (vertices (grid_of tech.grid)) found) (kept : Beyond (vertices (grid_of tech.grid)) laid bare) where
    -- with the pins laid it is as found, past the grid
    pub laid_kept : Beyond (vertices (grid_of tech.grid)) laid found
    laid_kept = beyond_trans kept (rw zeros (zeroed-beyond plan_room))

    -- what going through the nets asks
    pub nets_held : ((j : Job) → read_job bytes ≡ good j → Bare (vertices (grid_of tech.grid)) bare → Codes (grid_of tech.grid) (metal_at_first j) laid)
        → NetsHeld bytes tech occupants laid count start
    nets_held coded =
        record {
          job = held.job;
          read = held.read;
          layers = held.layers;
          fits = held.fits;
          nets = held.nets;
          from = held.from;
          occupied = held.occupied;
          coded = rw plan_grid at (coded held.job held.read (rw zeros (zeroed_bare _ found)));
          room = omega (arith, held.room, laid_kept.size);
        }

    -- the map has room after the nets
    pub after_long : {after : List ℕ} → Beyond (vertices (grid_of tech.grid)) after laid → vertices (grid_of tech.grid) ≤ length after
    after_long still = omega (arith, plan_room, laid_kept.size, still.size)

  -- so it is of every job that is read
  pub read_grid : (j : Job) → read_job bytes ≡ good j → grid_of tech.grid ≡ j.grid
  read_grid j read = let same : held.job ≡ j = cc held.read in plan_grid ∙ ap (λ (k : Job). k.grid) same

  -- with obstacles put in, the map of the metal is the job's
  pub finished_map_lem : (metal : List (List ℕ)) (after : List ℕ) → Codes (grid_of tech.grid) metal after → Beyond (vertices (grid_of tech.grid)) after found
      → (j : Job) → read_job bytes ≡ good j → with_obstacles occupants (vertices (grid_of tech.grid)) after ≡ map_of j metal ++ drop (vertices j.grid) found
  finished_map_lem metal after coded past j read =
      let same : held.job ≡ j = cc held.read in
      let g = read_grid j read in
      ap (λ (h : Grid). with_obstacles occupants (vertices h) after) g
      ∙ map_finished j metal occupants after found
      (subst (λ (k : Job). Occupants k.grid k.obstacles (all_pins k.nets) occupants) same held.occupied) (subst (λ (k : Job). vertices k.grid ≤ length found) same held.room)
      (subst (λ (h : Grid). Codes h metal after) g coded) (subst (λ (h : Grid). Beyond (vertices h) after found) g past)

-- the map zeroed by a count of the vertices
pub count-zeroed : (found : List ℕ) {n v : ℕ} {bare : List ℕ} → n ≡ v → bare ≡ zeroed n found → bare ≡ zeroed v found
count-zeroed found {bare = bare} e h = subst (λ (k : ℕ). bare ≡ zeroed k found) e h

-- it has room
pub bare_long : (bytes : List ℕ) (tech : TechStruct) (occupants : List ℕ) (found : List ℕ) (count start : ℕ) → PlanHeld bytes tech occupants found count start → {bare : List ℕ}
    → bare ≡ zeroed (vertices (grid_of tech.grid)) found → vertices (grid_of tech.grid) ≤ length bare
bare_long bytes tech occupants found count start held zeros =
    let room = plan_room bytes tech occupants found count start held in
    rw zeros (omega (arith, room, (zeroed-beyond {xs = found} room).size))
