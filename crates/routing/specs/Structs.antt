-- What routing some records comes to, in the code's words.
--     NetHere      the net at hand, before its first record
--     IsRouted     the totals, the plan's bits and the map after some records
use Rattle.std.specs.Prelude.{ℕ, suc, ◌+◌, ◌<◌, ◌≡◌, List, length}
use Rattle.bits.specs.Puts.{put_bits}
use Rattle.job.specs.Lists.{All}
use Rattle.job.specs.Grid.{vertices}
use Rattle.job.specs.Job.{Job}
use Rattle.job.specs.Good.{GoodJob}
use Rattle.rules.specs.Views.{View}
use Rattle.rules.specs.Prices.{tech_of}
use Rattle.rules.specs.Standings.{Standing}
use Rattle.rules.specs.Routings.{Routed}
use Rattle.rules.specs.Structs.{tech_by}
use Rattle.rules.specs.declared.price.Tech.{Tech as TechStruct}
use Rattle.plan.specs.Entries.{entry_bits}
use Rattle.metal.specs.Codes.{Codes, Beyond}
use Rattle.walker.specs.Entering.{Arrays}
use Rattle.walker.specs.Standing.{AtNet}
use Rattle.walker.specs.Structs.{totals_of}
use Rattle.routing.specs.declared.routed.Routed.{Routed as RoutedStruct}

-- net k of a good job, the layers and pins that the code holds, and what stands in the arrays
pub record NetHere (j : Job) (k : ℕ) (s : Standing) (tech : TechStruct) (view : View) (net : ℕ) (pins : List ℕ) (arrays : Arrays) : Type 0 where
  pub rules : GoodJob j
  pub layers : tech_by tech ≡ tech_of j
  pub number : net ≡ suc k
  pub below : All (λ v. v < vertices j.grid) pins
  pub here : AtNet j k view pins s arrays

-- the totals are those of what was routed, its records' bits are put from a bit on, and the map's codes are
-- those of its metal; past the grid the map is as found
pub record IsRouted (j : Job) (r : Routed) (from : ℕ) (end : RoutedStruct) (planFound planNow mapFound mapNow : List ℕ) : Type 0 where
  pub totals : totals_of end.totals ≡ r.totals
  pub next : end.bits ≡ from + length (entry_bits j.grid r.entries)
  pub bits : planNow ≡ put_bits planFound from (entry_bits j.grid r.entries)
  pub coded : Codes j.grid r.metal mapNow
  pub kept : Beyond (vertices j.grid) mapNow mapFound
