-- The forms in which the code holds a walk, the totals and the job.
--     IsWalk, walk_from, walk_on, WalkFits    a walk
--     IsEntered                               a walk of moves that were all entered
--     totals_of, Bounded                      totals
--     NetsHeld, PlanHeld                      a job that was read
use Rattle.std.specs.Prelude.{ℕ, ◌+◌, ◌*◌, ◌^◌, ◌≤◌, ◌<◌, ◌≡◌, List, length}
use Rattle.job.specs.Grid.{vertices}
use Rattle.job.specs.Job.{Job}
use Rattle.job.specs.Good.{all_pins}
use Rattle.job.specs.Reading.{good, nets_at, read_job}
use Rattle.job.specs.Heads.{job_head}
use Rattle.occupants.specs.Occupants.{Occupants}
use Rattle.rules.specs.Prices.{tech_of}
use Rattle.rules.specs.Standings.{metal_at_first}
use Rattle.rules.specs.Routings.{Totals}
use Rattle.rules.specs.Walks.{walk_cost, walk_added, walk_penalties}
use Rattle.rules.specs.Structs.{TechFits, tech_by, place_of}
use Rattle.rules.specs.declared.price.Tech.{Tech as TechStruct}
use Rattle.rules.specs.declared.segment.Segment.TheVariants.{Paid}
use Rattle.rules.specs.declared.step.Made.{Made as MadeStruct}
use Rattle.rules.specs.declared.totals.Totals.{Totals as TotalsStruct}
use Rattle.metal.specs.Codes.{Codes}
use Rattle.walker.specs.Entering.{Gone, Entered, stuck, entered}
use Rattle.walker.specs.declared.Walk.{Walk}

-- ---- a walk

-- the code's walk has led to the place, at the cost, with the added steps and penalties
pub record IsWalk (w : Walk) (gone : Gone) : Type 0 where
  pub place : place_of w.place ≡ gone.place
  pub cost : w.cost ≡ walk_cost gone.made
  pub added : w.added ≡ walk_added gone.made
  pub penalties : w.penalties ≡ walk_penalties gone.made

-- a join starts paid with no direction
unfoldable pub walk_from : (start : ℕ) → Walk
walk_from start = record { place = record { vertex = start; segment = Paid }; cost = 0; added = 0; penalties = 0 }

unfoldable pub walk_on : Walk → MadeStruct → Walk
walk_on w m =
    record {
      place = m.next;
      cost = w.cost + (m.enter + m.over);
      added = w.added + m.added;
      penalties = w.penalties + m.penalties;
    }

-- a walk's numbers: of fewer than 2^20 moves
pub record WalkFits (w : Walk) : Type 0 where
  pub cost : w.cost < 2 ^ 38
  pub added : w.added < 2 ^ 24
  pub penalties : w.penalties < 2 ^ 20

-- all moves were entered, and the walk is theirs
unfoldable pub IsEntered : Walk → Entered → Type 0
IsEntered w stuck = ⊥
IsEntered w (entered gone arrays) = IsWalk w gone

-- ---- totals

abbrev pub totals_of : TotalsStruct → Totals
totals_of t = record { cost = t.cost; added = t.added; penalties = t.penalties; joined = t.joined }

-- the totals of at most n records, and how far they reach
pub record Bounded (n : ℕ) (totals : TotalsStruct) (at : ℕ) : Type 0 where
  pub cost : totals.cost ≤ 2 ^ 38 * n
  pub added : totals.added ≤ 2 ^ 24 * n
  pub penalties : totals.penalties ≤ 2 ^ 20 * n
  pub joined : totals.joined ≤ n
  pub reach : at ≤ 2 ^ 23 * n

-- ---- a job that was read, with what the code holds of it

-- before any net is joined: layers, occupants, and a map with room
pub record PlanHeld (bytes : List ℕ) (tech : TechStruct) (occupants : List ℕ) (map : List ℕ) (count start : ℕ) : Type 0 where
  pub job : Job
  pub read : read_job bytes ≡ good job
  pub layers : tech_by tech ≡ tech_of job
  pub fits : TechFits tech
  pub nets : length job.nets ≡ count
  pub from : nets_at (job_head job) ≡ start
  pub occupied : Occupants job.grid job.obstacles (all_pins job.nets) occupants
  pub room : vertices job.grid ≤ length map

-- layers, occupants, and the map's codes of its pins
pub record NetsHeld (bytes : List ℕ) (tech : TechStruct) (occupants : List ℕ) (codes : List ℕ) (count start : ℕ) : Type 0 where
  pub job : Job
  pub read : read_job bytes ≡ good job
  pub layers : tech_by tech ≡ tech_of job
  pub fits : TechFits tech
  pub nets : length job.nets ≡ count
  pub from : nets_at (job_head job) ≡ start
  pub occupied : Occupants job.grid job.obstacles (all_pins job.nets) occupants
  pub coded : Codes job.grid (metal_at_first job) codes
  pub room : vertices job.grid ≤ length codes
