-- A whole job, routed.
--     routed_long                                the map has room after the nets
--     routed_answer, routed_plan, routed-map     the totals with the plan's bits, the plan, and the map
use Prim.Native.Nat.{ℕ, ◌≤◌}
use mathlib.Core.Path.{◌≡◌, sym, ap, subst, ◌∙◌}
use mathlib.Core.List.{List, ◌++◌}
use native.Mathlib.Omega.{arith}
use lib.ListN.{length, drop}
use Rattle.bits.specs.Puts.{put_bits}
use Rattle.job.specs.Grid.{Grid, vertices}
use Rattle.job.specs.Job.{Job}
use Rattle.job.specs.Reading.{good, read_job}
use Rattle.job.specs.Structs.{grid_of}
use Rattle.rules.specs.Routings.{routing}
use Rattle.rules.specs.Maps.{map_of}
use Rattle.rules.specs.declared.price.Tech.{Tech as TechStruct}
use Rattle.metal.specs.Codes.{Codes, Beyond, with_obstacles}
use Rattle.job.specs.Slices.{zeroed}
use Rattle.metal.proofs.Slices.{beyond_trans}
use Rattle.walker.specs.Structs.{totals_of, PlanHeld}
use Rattle.walker.proofs.Wholes.{laid_kept, after_long, read_grid, finished_map_lem}
use Rattle.routing.specs.Plans.{plan_bits}
use Rattle.routing.specs.Structs.{IsRouted}
use Rattle.routing.specs.declared.routed.Routed.{Routed as RoutedStruct}

module _ (bytes : List ℕ) (tech : TechStruct) (occupants : List ℕ) (found : List ℕ) (count start : ℕ) (held : PlanHeld bytes tech occupants found count start)
    {bare laid : List ℕ} (zeros : bare ≡ zeroed (vertices (grid_of tech.grid)) found) (kept : Beyond (vertices (grid_of tech.grid)) laid bare)
    (planFound : List ℕ) (r : RoutedStruct) {after plan : List ℕ}
    (routed : (j : Job) → read_job bytes ≡ good j → IsRouted j (routing j) 0 r planFound plan laid after) where
  -- past the grid the map is as it was with the pins laid
  still : Beyond (vertices (grid_of tech.grid)) after laid
  still =
      subst (λ (g : Grid). Beyond (vertices g) after laid) (sym (read_grid bytes tech occupants found count start held held.job held.read))
      (routed held.job held.read).kept

  -- the map has room after the nets
  pub routed_long : vertices (grid_of tech.grid) ≤ length after
  routed_long = after_long bytes tech occupants found count start held zeros kept still

  -- the totals, and how many bits the plan has
  pub routed_answer : (j : Job) → read_job bytes ≡ good j → (totals_of r.totals ≡ (routing j).totals) × (r.bits ≡ length (plan_bits j))
  unfolding plan_bits
  routed_answer j read = let is = routed j read in (is.totals, omega (arith, is.next))

  -- the plan
  pub routed_plan : (j : Job) → read_job bytes ≡ good j → plan ≡ put_bits planFound 0 (plan_bits j)
  unfolding plan_bits
  routed_plan j read = (routed j read).bits

  -- the map
  pub routed-map : {n : ℕ} {map : List ℕ} → n ≡ vertices (grid_of tech.grid) → map ≡ with_obstacles occupants n after
      → (j : Job) → read_job bytes ≡ good j → map ≡ map_of j (routing j).metal ++ drop (vertices j.grid) found
  routed-map counted finished j read =
      let g = read_grid bytes tech occupants found count start held j read in
      finished ∙ ap (λ (m : ℕ). with_obstacles occupants m after) counted
      ∙ finished_map_lem bytes tech occupants found count start held (routing j).metal after
      (subst (λ (h : Grid). Codes h (routing j).metal after) (sym g) (routed j read).coded)
      (beyond_trans still (laid_kept bytes tech occupants found count start held zeros kept)) j read
