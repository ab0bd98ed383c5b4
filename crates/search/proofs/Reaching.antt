-- One move, in the code's words.
--     via_passed                       a via that is passed over lowers no key, whatever it owes
--     attempt_told, attempt_passed     a move that was tried, and one that was passed over
--     attempt_to                       a move that leads to a place
--     reach_stopped, _enters, _goes    what trying it does
--     reach_not                        one that leads nowhere, or is passed over, does nothing
--     no_goals_lem                     while places are settled, no place with a key lies on an unjoined pin
use Prim.Native.Nat.{ℕ, suc, ◌+◌, ◌*◌, ◌≤◌, ◌<◌, min}
use mathlib.Core.Path.{◌≡◌, refl, sym, ap, ◌∙◌}
use mathlib.Core.Logic.{◌⊎◌, inl, inr}
use mathlib.Core.List.{List}
use mathlib.Core.Bool.{true, false, true≢false}
use native.Mathlib.Omega.{arith}
use lib.ListN.{get_or, set}
use lib.Dec.{eqb}
use Rattle.std.proofs.Common.{Some, None}
use Rattle.std.proofs.lemmas.Option.{none-some}
use Rattle.paths.specs.Systems.{Step, blocked, to}
use Rattle.paths.specs.Costs.{Cost, fin, inf}
use Rattle.paths.proofs.Steps.{not_blocked, one_price, one_next}
use Rattle.rules.specs.Views.{View}
use Rattle.rules.specs.Segments.{kind_of, Place}
use Rattle.rules.specs.Prices.{Tech}
use Rattle.rules.specs.Steps.{step, priced}
use Rattle.rules.specs.Joins.{places}
use Rattle.rules.specs.Places.{place_code, GoodPlace, GoodTech}
use Rattle.rules.specs.Structs.{Via, owed_cost, by_owed, entry_of, place_of}
use Rattle.rules.specs.declared.step.Entry.{Entry}
use Rattle.rules.proofs.Places.{code_below}
use Rattle.rules.proofs.Moves.{step_keeps}
use Rattle.rules.proofs.Entering.{priced_via}
use Rattle.heap.specs.Heaps.{Heaped, Lowered}
use Rattle.search.specs.Fronts.{left_at}
use Rattle.search.specs.Bits.{with_move}
use Rattle.search.specs.Tries.{tried_of, OwedFor, fresh_code, Passed, Attempted}
use Rattle.search.specs.declared.tries.Arrival.{Arrival}
use Rattle.search.specs.declared.tries.Attempt.{Attempt}
use Rattle.search.specs.Spreads.{keys, NoGoals, Turn, Reach}

-- ---- a move that is tried

-- a key that a price does not lower is not lowered by more
more_passed : {t : Tech} {bounds work : List ℕ} {distance price more c : ℕ} → price ≤ more → Passed t bounds work distance price c → Passed t bounds work distance more c
more_passed up passed = record { touched = passed.touched; within = omega (arith, passed.within, up) }

module _ {t : Tech} (view : View) {bounds work : List ℕ} (p : Place) {distance : ℕ} (number : ℕ) where
  -- a via that is passed over lowers no key, whatever it owes
  pub via_passed : {e : Entry} → entry_of t view p.vertex number ≡ Some e → Via (kind_of number) → Passed t bounds work distance e.price (fresh_code t e.into)
      → (c : ℕ) (q : Place) → priced (step t view p number) ≡ to c q → Passed t bounds work distance c (place_code t q)
  unfolding fresh_code by_owed
  via_passed {e} opens via passed c q leads =
      by (owed_cost t view p) (priced_via t view p number opens via ∙ leads)
    where
      by : (x : Cost) → by_owed e.into e.price x ≡ to c q → Passed t bounds work distance c (place_code t q)
      by inf is = absurd (not_blocked is)
      by (fin over) is =
          let dearer : e.price + over ≡ c = one_price is in
          rw (← one_next is) (more_passed (omega (arith, dearer)) passed)

  -- a move that was tried
  pub attempt_told : {a : Attempt} → tried_of a.tried ≡ priced (step t view p number) → OwedFor t view p a.owed
      → Attempted t view bounds work p distance number a
  attempt_told is owed = record { owed = owed; tried = inl is }

  -- one that was passed over
  pub attempt_passed : {a : Attempt} → a.tried ≡ None → ((c : ℕ) (q : Place) → priced (step t view p number) ≡ to c q → Passed t bounds work distance c (place_code t q))
      → OwedFor t view p a.owed → Attempted t view bounds work p distance number a
  attempt_passed is passed owed = record { owed = owed; tried = inr (is, passed) }

  -- a move that leads to a place
  pub attempt_to : {a : Attempt} {arrival : Arrival} → Attempted t view bounds work p distance number a → a.tried ≡ Some arrival
      → priced (step t view p number) ≡ to arrival.price (place_of arrival.place)
  unfolding tried_of
  attempt_to {a} {arrival} attempt is = by attempt.tried
    where
      by : (tried_of a.tried ≡ priced (step t view p number))
          ⊎ ((a.tried ≡ None) × ((c : ℕ) (q : Place) → priced (step t view p number) ≡ to c q → Passed t bounds work distance c (place_code t q)))
          → priced (step t view p number) ≡ to arrival.price (place_of arrival.place)
      by (inl told) = sym told ∙ ap tried_of is
      by (inr (stopped, passed)) = absurd (none-some _ (sym stopped ∙ is))

-- ---- what trying it does

-- whether it enters an unjoined pin does not depend on how it is said
same_goal : (spots : List ℕ) {move : Step Place} {c d : ℕ} {q r : Place} → move ≡ to c q → move ≡ to d r
    → eqb (get_or spots q.vertex 0) 2 ≡ eqb (get_or spots r.vertex 0) 2
same_goal spots is e = ap (λ (x : Place). eqb (get_or spots x.vertex 0) 2) (one_next (sym is ∙ e))

-- an item with a key that is no greater stays as it is
lowered_same : {n size item distance : ℕ} {work : List ℕ} → Heaped n size work → 0 < keys work item → keys work item ≤ suc distance
    → Lowered n size item distance work work size
lowered_same heaped some low =
    record {
      heaped = heaped;
      long = refl;
      new = λ none. absurd (omega (arith, none));
      better = λ inside less. absurd (omega (arith, less));
      same = λ touched least. (refl, refl);
      keys = λ c h e. refl;
      stays = λ c h e inside. inside;
      still = λ c h e out. refl;
      beyond = λ j h. refl;
    }

module _ {t : Tech} {view : View} {spots bounds : List ℕ} {p : Place} {distance number : ℕ} {move : Step Place} {size best : ℕ} {near work : List ℕ} where
  -- a move that is blocked
  pub reach_stopped : move ≡ blocked → Reach t view spots bounds p distance number move size best near work size best near work
  reach_stopped is =
      record {
        stopped = λ e. (refl, refl, refl, refl);
        enters = λ e g. absurd (not_blocked (sym is ∙ e));
        goes = λ e g. absurd (not_blocked (sym is ∙ e));
      }

  module _ {c : ℕ} {q : Place} (is : move ≡ to c q) where
    -- a move into a goal
    pub reach_enters : eqb (get_or spots q.vertex 0) 2 ≡ true → {less : ℕ} {lit : List ℕ} → less ≡ min best (distance + c) → lit ≡ set near p.vertex (with_move (get_or near p.vertex 0) number)
        → Reach t view spots bounds p distance number move size best near work size less lit work
    reach_enters g lesser set =
        record {
          stopped = λ e. absurd (not_blocked (sym e ∙ is));
          enters = λ e h. (refl, lesser ∙ ap (λ (x : ℕ). min best (distance + x)) (one_price (sym is ∙ e)), set, refl);
          goes = λ e h. absurd (true≢false (sym g ∙ same_goal spots is e ∙ h));
        }

    -- a move to another place
    pub reach_goes : eqb (get_or spots q.vertex 0) 2 ≡ false → {now : ℕ} {after : List ℕ}
        → Lowered (places t) size (place_code t q) (16 * (distance + c) + left_at t bounds (place_code t q)) work after now → Reach t view spots bounds p distance number move size best near work now best near after
    reach_goes g {now} {after} lowered =
        record {
          stopped = λ e. absurd (not_blocked (sym e ∙ is));
          enters = λ e h. absurd (true≢false (sym h ∙ sym (same_goal spots is e) ∙ g));
          goes = λ e h.
              (rw (← one_next (sym is ∙ e), ← one_price (sym is ∙ e)) lowered, refl, refl);
        }

-- a move that leads nowhere, or is passed over, does nothing
pub reach_not : {t : Tech} {view : View} (spots bounds : List ℕ) {p : Place} {distance number size best : ℕ} {near work : List ℕ} {a : Attempt} → GoodTech t → GoodPlace t p
    → Heaped (places t) size work → NoGoals t spots work → Attempted t view bounds work p distance number a → a.tried ≡ None
    → Reach t view spots bounds p distance number (priced (step t view p number)) size best near work size best near work
unfolding tried_of
reach_not {t} {view} spots bounds {p} {distance} {number} {size} {best} {near} {work} {a} fine on heaped none attempt is = by attempt.tried
  where
    move : Step Place
    move = priced (step t view p number)

    passed_by : (x : Step Place) → move ≡ x → ((c : ℕ) (q : Place) → move ≡ to c q → Passed t bounds work distance c (place_code t q))
        → Reach t view spots bounds p distance number move size best near work size best near work
    passed_by blocked e passed = reach_stopped e
    passed_by (to c q) e passed =
        let there = passed c q e in
        let good = step_keeps view p number fine on e in
        reach_goes e (none.none good there.touched) (lowered_same heaped there.touched there.within)

    by : (tried_of a.tried ≡ move) ⊎ ((a.tried ≡ None) × ((c : ℕ) (q : Place) → move ≡ to c q → Passed t bounds work distance c (place_code t q)))
        → Reach t view spots bounds p distance number move size best near work size best near work
    by (inl told) = reach_stopped (sym told ∙ ap tried_of is)
    by (inr (stopped, passed)) = passed_by move refl passed

-- while places are settled, no place with a key lies on an unjoined pin
pub no_goals_lem : {t : Tech} {view : View} {spots bounds near work : List ℕ} {size settled best item distance number : ℕ}
    → Turn t view spots bounds near work size settled best item distance number → NoGoals t spots work
no_goals_lem {t} turn = record { none = λ {p} good some. turn.spread.no_goals good (turn.told (place_code t p) (code_below good) some) }
