-- The moves of cheapest joins, in the code's words.
--     lead_stopped, lead_goal               whether a move leads to a goal at the best cost
--     lead_bare, lead_led                   or on to a lead
--     Untried, untried_begun, _on, _skip    so far no move does
--     untried_here, untried_none            the first that does; none does
use Prim.Native.Nat.{ℕ, zero, suc, ◌+◌, ◌*◌, ◌/◌, ◌%◌, ◌≤◌, ◌<◌}
use mathlib.Core.Path.{◌≡◌, refl, sym, ◌∙◌}
use mathlib.Core.List.{List}
use mathlib.Core.Bool.{Bool, true, false, cond}
use native.Mathlib.Omega.{arith}
use native.Mathlib.Decide.{ℕ_discrete}
use lib.ListN.{get_or}
use lib.Dec.{eqb}
use borrow.Author.Tests.{eq-eqb, ne_eqb}
use Rattle.paths.specs.Systems.{Step, blocked, to}
use Rattle.paths.specs.Distances.{is_cost, lowest_from}
use Rattle.paths.specs.Leads.{is_lead, lowest_lead}
use Rattle.paths.proofs.Lowest.{lowest_next, lowest_is}
use Rattle.rules.specs.Views.{View}
use Rattle.rules.specs.Segments.{Place}
use Rattle.rules.specs.Prices.{Tech}
use Rattle.rules.specs.Steps.{step, priced}
use Rattle.rules.specs.Places.{place_code, entry_cost}
use Rattle.heap.specs.Heaps.{key_of, slot_of}
use Rattle.search.specs.Fronts.{left_at, cost_in, costs, reached_by, led_by}
use Rattle.search.specs.Leads.{lead_by, lowest_by, OnlyMoves}
use Rattle.search.specs.Bits.{HasMove}
use Rattle.search.proofs.Costing.{cost_in_lem, in_cost}

-- ---- one move

-- an entry, without the move that it tells, is that of a lead at a cost just where it has both
led_told : (left word cost : ℕ) → eqb (word / 4) ((16 * cost + left + 1) * 262144 + 262142)
    ≡ cond (eqb (slot_of word / 4) 262142) (is_cost cost (entry_cost (cost_in left (key_of word)))) false
unfolding slot_of key_of is_cost entry_cost
led_told left word cost = by (ℕ_discrete (word % 1048576 / 4) 262142) (cost_in left (word / 1048576)) refl
  where
    by : Dec (word % 1048576 / 4 ≡ 262142) → (told : ℕ) → cost_in left (word / 1048576) ≡ told
        → eqb (word / 4) ((16 * cost + left + 1) * 262144 + 262142) ≡ cond (eqb (word % 1048576 / 4) 262142) (is_cost cost (entry_cost (cost_in left (word / 1048576)))) false
    by (no e) told is = rw (ne_eqb (word % 1048576 / 4) 262142 e) (ne_eqb (word / 4) ((16 * cost + left + 1) * 262144 + 262142) (λ f. e (omega arith)))
    by (yes e) zero is = rw (eq-eqb (word % 1048576 / 4) 262142 e, is) (ne_eqb (word / 4) ((16 * cost + left + 1) * 262144 + 262142) (λ f. not_told f))
      where
        not_told : word / 4 ≡ (16 * cost + left + 1) * 262144 + 262142 → ⊥
        not_told f = let key : word / 1048576 ≡ suc (16 * cost + left) = omega arith in omega (arith, is, in_cost left (word / 1048576) key)
    by (yes e) (suc n) is = rw (eq-eqb (word % 1048576 / 4) 262142 e, is) (at (ℕ_discrete n cost))
      where
        key : word / 1048576 ≡ suc (16 * n + left)
        key = cost_in_lem left (word / 1048576) is

        at : Dec (n ≡ cost) → eqb (word / 4) ((16 * cost + left + 1) * 262144 + 262142) ≡ eqb n cost
        at (yes f) = rw (eq-eqb n cost f) (eq-eqb (word / 4) ((16 * cost + left + 1) * 262144 + 262142) (omega (arith, key)))
        at (no f) = rw (ne_eqb n cost f) (ne_eqb (word / 4) ((16 * cost + left + 1) * 262144 + 262142) (λ g. f (omega (arith, key))))

module _ (t : Tech) (view : View) (spots bounds work : List ℕ) (best e : ℕ) {move : Step Place} where
  -- a blocked move leads nowhere
  pub lead_stopped : move ≡ blocked → false ≡ lead_by t view spots bounds work best e move
  unfolding is_lead
  lead_stopped is = rw is refl

  module _ {c : ℕ} {q : Place} (is : move ≡ to c q) where
    -- into a goal the cost is the best
    pub lead_goal : get_or spots q.vertex 0 ≡ 2 → eqb (e + c) best ≡ lead_by t view spots bounds work best e move
    unfolding is_lead
    lead_goal goal = rw (is, eq-eqb (get_or spots q.vertex 0) 2 goal) refl

    -- elsewhere the entry has a lead
    pub lead_bare : (get_or spots q.vertex 0 ≡ 2 → ⊥) → {code : ℕ} → code ≡ place_code t q → (get_or work code 0 % 1048576 / 4 ≡ 262142 → ⊥)
        → false ≡ lead_by t view spots bounds work best e move
    unfolding is_lead led_by slot_of
    lead_bare other {code} at bare =
        rw (is, ne_eqb (get_or spots q.vertex 0) 2 other, ne_eqb (get_or work (place_code t q) 0 % 1048576 / 4) 262142 (rw at at bare)) refl

    -- and is that of a lead at the distance
    pub lead_led : (get_or spots q.vertex 0 ≡ 2 → ⊥) → {code left : ℕ} → code ≡ place_code t q → left ≡ left_at t bounds (place_code t q)
        → eqb (get_or work code 0 / 4) ((16 * (e + c) + left + 1) * 262144 + 262142) ≡ lead_by t view spots bounds work best e move
    unfolding is_lead reached_by costs led_by
    lead_led other at rest =
        rw (is, ne_eqb (get_or spots q.vertex 0) 2 other, at, rest) (led_told (left_at t bounds (place_code t q)) (get_or work (place_code t q) 0) (e + c))

-- ---- the lowest

module _ (t : Tech) (view : View) (spots bounds work : List ℕ) (best : ℕ) (p : Place) where
  -- whether a move leads on, from p at a distance
  abbrev test : (e : ℕ) → ℕ → Bool
  test e m = lead_by t view spots bounds work best e (priced (step t view p m))

  -- so far none does
  pub record Untried (distance n : ℕ) : Type 0 where
    pub known : n ≤ 4
    pub none : (i : ℕ) → i < n → test distance i ≡ false

  -- none is tried
  pub untried_begun : (distance : ℕ) → Untried distance 0
  untried_begun distance = record { known = omega arith; none = λ i h. absurd (omega arith) }

  module _ {distance n : ℕ} (so_far : Untried distance n) where
    -- one more
    pub untried_on : {r : Bool} → n < 4 → r ≡ test distance n → r ≡ false → Untried distance (n + 1)
    untried_on h is not = record { known = omega arith; none = λ i below. by i below (ℕ_discrete i n) }
      where
        by : (i : ℕ) → i < n + 1 → Dec (i ≡ n) → test distance i ≡ false
        by i below (yes e) = rw e (sym is ∙ not)
        by i below (no e) = so_far.none i (omega arith)

    -- a move that is not of the byte does not
    pub untried_skip : (byte : ℕ) → OnlyMoves t view spots bounds work best p distance byte → n < 4 → (HasMove byte n → ⊥) → Untried distance (n + 1)
    untried_skip byte only h off = untried_on h refl (only n h off)

    -- the first that does
    pub untried_here : {r : Bool} → n < 4 → r ≡ test distance n → r ≡ true → n ≡ lowest_by t view spots bounds work best p distance
    unfolding lowest_lead
    untried_here h is leads = sym (lowest_is (test distance) 4 n h (sym is ∙ leads) so_far.none)

    -- none does
    pub untried_none : 4 ≤ n → 4 ≡ lowest_by t view spots bounds work best p distance
    unfolding lowest_lead lowest_from
    untried_none h = sym (past 0 4 (omega arith))
      where
        past : (m k : ℕ) → m + k ≡ 4 → lowest_from (test distance) m k ≡ 4
        past m zero all = let is_all : m ≡ 4 = omega arith in is_all
        past m (suc k) all = lowest_next (test distance) m k (so_far.none m (omega arith)) ∙ past (suc m) k (omega arith)
