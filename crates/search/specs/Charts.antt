-- The work slice before a search, and after one that found an unjoined pin.
--     Blank         two words for each place, all zero
--     Charted       the costs from the tree at the best cost, and a lead on each place of a cheapest join,
--                   which tells the lowest move that leads on
--     lowest_led    the lowest start with a lead
use Rattle.std.specs.Prelude.{ℕ, ◌+◌, ◌^◌, ◌≤◌, ◌<◌, ◌≡◌, List, true, length, get_or}
use Rattle.paths.specs.Costs.{fin}
use Rattle.paths.specs.Forward.{LowerBound, Forward}
use Rattle.paths.specs.Leads.{Leading, led_start}
use Rattle.rules.specs.Views.{View}
use Rattle.rules.specs.Segments.{Place}
use Rattle.rules.specs.Prices.{Tech}
use Rattle.rules.specs.Joins.{places}
use Rattle.rules.specs.Places.{GoodPlace}
use Rattle.heap.specs.Heaps.{key_of}
use Rattle.metal.specs.Codes.{Bare}
use Rattle.search.specs.Fronts.{system_by, starts_by, reached_by, at_least, led_by, lead_at}
use Rattle.search.specs.Leads.{lowest_by}

-- the slice has two words for each place, and they are zero
pub record Blank (t : Tech) (work : List ℕ) : Type 0 where
  pub room : places t + places t ≤ length work
  pub bare : Bare (places t + places t) work

-- the slice has an entry for each place, and each key is small; no rival costs less than is left at least
pub record Charted (t : Tech) (view : View) (spots bounds work : List ℕ) (best : ℕ) : Type 0 where
  pub room : places t ≤ length work
  pub small : (c : ℕ) → c < places t → key_of (get_or work c 0) ≤ 2 ^ 41
  pub low : LowerBound (system_by t view spots) (GoodPlace t) (at_least t bounds)
  pub forward : Forward (system_by t view spots) (GoodPlace t) (starts_by t view spots) (at_least t bounds) (reached_by t bounds work) (fin best)
  pub leading : Leading (system_by t view spots) (reached_by t bounds work) best (GoodPlace t) (at_least t bounds) (led_by t work)
  pub told : {p : Place} {e : ℕ} → GoodPlace t p → reached_by t bounds work p ≡ fin e → e + at_least t bounds p ≤ best → led_by t work p ≡ true
      → lead_at t work p ≡ lowest_by t view spots bounds work best p e

-- the lowest start with a lead
abbrev pub lowest_led : Tech → View → (spots work : List ℕ) → ℕ
lowest_led t view spots work = led_start (starts_by t view spots) (led_by t work)
