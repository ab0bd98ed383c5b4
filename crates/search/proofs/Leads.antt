-- Leads and moves, by the entries.
--     led_told, told_led               a place has a lead just where its slot says so
--     cost_told, same_reached          it has a cost where its key does, and the same by the same keys
--     Lead                             a move leads on
--     lead_some, lead_none             the lowest move that leads on is one of the four just where one leads
--                                      on
--     only_none                        of a byte without any move none does
use Prim.Native.Nat.{ℕ, suc, ◌/◌, ◌≤◌, ◌<◌}
use mathlib.Core.Path.{◌≡◌}
use mathlib.Core.List.{List}
use mathlib.Core.Bool.{Bool, true}
use native.Mathlib.Omega.{arith}
use lib.ListN.{get_or}
use borrow.Author.Tests.{eqb-true, eq-eqb}
use Rattle.paths.specs.Distances.{lowest_from}
use Rattle.paths.specs.Costs.{fin}
use Rattle.paths.specs.Leads.{Leads, is_lead, lowest_lead}
use Rattle.paths.proofs.Lowest.{lowest_passes, lowest_one, lowest_none}
use Rattle.paths.proofs.Leads.{leads_known, test_leads, leads_test}
use Rattle.rules.specs.Views.{View}
use Rattle.rules.specs.Segments.{Place}
use Rattle.rules.specs.Prices.{Tech}
use Rattle.rules.specs.Places.{place_code, entry_cost}
use Rattle.heap.specs.Heaps.{slot_of}
use Rattle.search.specs.Fronts.{system_by, costs, reached_by, led_by}
use Rattle.search.specs.Spreads.{keys}
use Rattle.search.specs.Leads.{lowest_by, OnlyMoves}
use Rattle.search.proofs.Costing.{same-costs}
use Rattle.search.proofs.Bits.{none_has}
use Rattle.search.proofs.Finding.{cost_key}

module _ (t : Tech) (work : List ℕ) (p : Place) where
  -- a place has a lead just where its slot says so
  pub led_told : led_by t work p ≡ true → slot_of (get_or work (place_code t p) 0) / 4 ≡ 262142
  unfolding led_by
  led_told is = eqb-true _ 262142 is

  pub told_led : slot_of (get_or work (place_code t p) 0) / 4 ≡ 262142 → led_by t work p ≡ true
  unfolding led_by
  told_led is = eq-eqb _ 262142 is

  -- and a cost where its key does
  pub cost_told : (bounds : List ℕ) {e : ℕ} → reached_by t bounds work p ≡ fin e → costs t bounds work (place_code t p) ≡ suc e
  unfolding reached_by
  cost_told bounds is = cost_key _ is

-- entries with the same keys tell the same costs
pub same_reached : (t : Tech) (bounds work found : List ℕ) → ((c : ℕ) → keys work c ≡ keys found c) → reached_by t bounds work ≡ reached_by t bounds found
unfolding reached_by
same_reached t bounds work found same = λ i p. entry_cost (same-costs t bounds work found (place_code t p) (same (place_code t p)) i)

-- a move from p, to which it costs e, leads to a goal at the best cost, or on to a place with a lead; costs
-- are those of a slice, leads those of another
abbrev pub Lead : Tech → View → (spots bounds found work : List ℕ) → (best : ℕ) → (p : Place) → (e m : ℕ) → Type 0
Lead t view spots bounds found work best p e m = Leads (system_by t view spots) (reached_by t bounds found) best (λ q. led_by t work q ≡ true) p e m

module _ (t : Tech) (view : View) (spots bounds work : List ℕ) (best : ℕ) (p : Place) (e : ℕ) where
  -- the test of a move
  abbrev test : ℕ → Bool
  test m = is_lead (system_by t view spots) (reached_by t bounds work) best (led_by t work) e ((system_by t view spots).step p m)

  -- the lowest move that leads on is one of the four just where one leads on
  pub lead_some : lowest_by t view spots bounds work best p e < 4 → (m : ℕ) × Lead t view spots bounds work work best p e m
  unfolding lowest_lead
  lead_some h = (lowest_from test 0 4, test_leads h (lowest_one test 0 4 h))

  pub lead_none : 4 ≤ lowest_by t view spots bounds work best p e → {m : ℕ} → Lead t view spots bounds work work best p e m → ⊥
  unfolding lowest_lead
  lead_none h {m} lead =
      let (up, pass) = lowest_passes test 0 4 m (omega arith) (leads_known lead) (leads_test lead) in
      omega (arith, leads_known lead)

  -- of a byte without any move none does
  pub only_none : {byte : ℕ} → byte ≡ 0 → OnlyMoves t view spots bounds work best p e byte → 4 ≤ lowest_by t view spots bounds work best p e
  unfolding lowest_lead
  only_none zeros only = omega (arith, lowest_none test 0 4 (λ m less. only m less (none_has m zeros)))
