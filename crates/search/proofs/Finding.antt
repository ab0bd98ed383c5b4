-- Goals found: a move that enters one, and what the search has found when it stops.
--     cost_key          the key of an entry by the cost that it tells
--     spread_enters     a move into a goal
--     spread_forward    no open place is below the best cost: what the search has found
use Prim.Native.Nat.{ℕ, zero, suc, ◌+◌, ◌^◌, ◌≤◌, ◌<◌, min}
use mathlib.Core.Path.{◌≡◌, refl, sym, ap, ◌∙◌}
use mathlib.Core.Logic.{◌⊎◌, inl, inr}
use mathlib.Core.List.{List}
use mathlib.Core.Bool.{Bool, true, false, cond, true≢false}
use native.Mathlib.Omega.{arith}
use native.Mathlib.Decide.{dec_lt}
use lib.ListN.{length, get_or, set}
use lib.Dec.{eqb, ltb}
use borrow.Author.Tests.{eqb-true, ltb-true, ltb-false}
use Rattle.paths.specs.Systems.{Legal}
use Rattle.paths.specs.Costs.{Cost, fin, inf}
use Rattle.paths.specs.Tables.{within}
use Rattle.paths.specs.Forward.{Enters, Forward}
use Rattle.paths.proofs.Costs.{inf_not_fin}
use Rattle.paths.proofs.Steps.{one_price, one_next}
use Rattle.paths.proofs.OnBest.{same_fin}
use Rattle.rules.specs.Views.{View}
use Rattle.rules.specs.Segments.{Place}
use Rattle.rules.specs.Prices.{Tech}
use Rattle.rules.specs.Places.{place_code, entry_cost, GoodPlace, GoodTech}
use Rattle.rules.proofs.Places.{code_below}
use Rattle.search.specs.Fronts.{system_by, starts_by, best_by}
use Rattle.search.specs.Bits.{with_move}
use Rattle.search.specs.Spreads.{Entered, Spread}
use Rattle.search.proofs.Lawful.{lawful_by}
use Rattle.search.proofs.Bits.{moves_set, moves_stay}
use Rattle.search.proofs.Spreading.{spread_more}

-- ---- the cost that a key tells

key_cost : {k e : ℕ} → k ≡ suc e → entry_cost k ≡ fin e
unfolding entry_cost
key_cost is = rw is refl

pub cost_key : (k : ℕ) {e : ℕ} → entry_cost k ≡ fin e → k ≡ suc e
unfolding entry_cost
cost_key zero is = absurd (inf_not_fin is)
cost_key (suc k) is = ap suc (same_fin refl is)

key_within : (k : ℕ) {c : ℕ} → 0 < k → k ≤ suc c → within (entry_cost k) (fin c)
unfolding entry_cost
key_within zero some up = absurd (omega arith)
key_within (suc k) some up = omega arith

-- ---- a move into a goal

module _ {t : Tech} (view : View) (spots : List ℕ) (fine : GoodTech t) where
  -- the byte says that a vertex is an unjoined pin
  abbrev goal : Place → Bool
  goal p = eqb (get_or spots p.vertex 0) 2

  module _ {key : ℕ → ℕ} {settled : ℕ → Type 0} {near : List ℕ} {best limit item number : ℕ}
      (so_far : Spread t view spots key settled near best limit item number) {here next : Place}
      {distance price : ℕ} (on : GoodPlace t here) (is_item : place_code t here ≡ item) (is-done : settled item) (is_key : key item ≡ suc distance)
      (legal : Legal (system_by t view spots) here number price next) (enters : goal next ≡ true) (room : here.vertex < length near) where
    -- the lesser cost
    abbrev lesser : ℕ
    lesser = min best (distance + price)

    -- the move's bit is set
    abbrev lights : List ℕ
    lights = set near here.vertex (with_move (get_or near here.vertex 0) number)

    -- the cheapest goal found
    lesser_found : lesser < 1099511627775 → Entered t view spots key settled lesser
    lesser_found h = by (dec_lt best (distance + price))
      where
        by : Dec (best < distance + price) → Entered t view spots key settled lesser
        by (yes l) = let same : lesser ≡ best = omega arith in rw same (so_far.found (omega arith))
        by (no l) =
            record {
              from = here;
              to = next;
              cost = distance;
              move = number;
              price = price;
              good = on;
              no_goal = so_far.no_goals on (omega (arith, is_key, ap key is_item));
              done = rw is_item is-done;
              is = ap key is_item ∙ is_key;
              legal = legal;
              goal = enters;
              sum = omega arith;
            }

    lessened : Spread t view spots key settled lights lesser limit item number
    lessened =
        record {
          starts = so_far.starts;
          reached = so_far.reached;
          no_goals = so_far.no_goals;
          small = so_far.small;
          closed = so_far.closed;
          least = λ good done tried is l g. omega (arith, so_far.least good done tried is l g);
          lit = λ {p} {q} {m} good done tried l g. moves_stay near here.vertex number room p.vertex m (so_far.lit good done tried l g);
          found = lesser_found;
          bound = omega (arith, so_far.bound);
        }

    pub spread_enters : Spread t view spots key settled lights lesser limit item (number + 1)
    spread_enters =
        spread_more view spots fine lessened on is_item
        (λ q e c is l g. absurd (not_both (goal q) g (ap goal (one_next (sym legal.leads ∙ l.leads)))))
        (λ q e c is l g. omega (arith, is, is_key, ap key is_item, one_price (sym legal.leads ∙ l.leads)))
        (λ q c l g. moves_set near here.vertex number room)
      where
        not_both : (b : Bool) → b ≡ false → goal next ≡ b → ⊥
        not_both b f e = true≢false (sym enters ∙ e ∙ f)

  -- ---- what the search has found

  -- h is what is left at least from a place
  module _ (h : Place → ℕ) {key : ℕ → ℕ} {settled : ℕ → Type 0} {near : List ℕ} {best limit item number : ℕ}
      (so_far : Spread t view spots key settled near best limit item number) (all : 4 ≤ number) (few : limit + 2 ^ 25 < 1099511627775)
      (near-enough : (p : Place) → h p ≤ 2 ^ 24)
      (rest : (p : Place) (e : ℕ) → GoodPlace t p → key (place_code t p) ≡ suc e → settled (place_code t p) ⊎ (best < e + h p)) where
    -- the cost to each place
    abbrev cost_to : Place → Cost
    cost_to p = entry_cost (key (place_code t p))

    -- every move of a settled place is tried
    tried : {p q : Place} {m c : ℕ} → Legal (system_by t view spots) p m c q → place_code t p ≡ item → m < number
    tried legal e = omega (arith, legal.known)

    -- a place within the best cost is settled
    within_settled : {p : Place} {e : ℕ} → GoodPlace t p → key (place_code t p) ≡ suc e → within (fin (e + h p)) (best_by best) → settled (place_code t p)
    unfolding best_by
    within_settled {p} {e} good is Near-by = by (rest p e good is)
      where
        beyond : best < e + h p → (b : Bool) → ltb best 1099511627775 ≡ b → within (fin (e + h p)) (cond b (fin best) inf) → ⊥
        beyond high true test less = omega arith
        beyond high false test less =
            omega (arith, ltb-false best 1099511627775 test, so_far.small _ (code_below good), is, near-enough p)

        by : settled (place_code t p) ⊎ (best < e + h p) → settled (place_code t p)
        by (inl done) = done
        by (inr high) = absurd (beyond high (ltb best 1099511627775) refl Near-by)

    -- no goal costs less
    best-within : {p q : Place} {e m c : ℕ} → GoodPlace t p → settled (place_code t p) → key (place_code t p) ≡ suc e
        → Legal (system_by t view spots) p m c q → goal q ≡ true → within (best_by best) (fin (e + c))
    unfolding best_by
    best-within {p} {e = e} {c = c} good done is legal g = by (ltb best 1099511627775) refl
      where
        bounded : best ≤ e + c
        bounded = so_far.least good done (tried legal) is legal g

        by : (b : Bool) → ltb best 1099511627775 ≡ b → within (cond b (fin best) inf) (fin (e + c))
        by true test = bounded
        by false test =
            omega (arith, ltb-false best 1099511627775 test, so_far.small _ (code_below good), is, bounded, (lawful_by view spots fine).limits good legal)

    -- some move enters a goal for it
    best_found : {n : ℕ} → best_by best ≡ fin n → Enters (system_by t view spots) (GoodPlace t) cost_to n
    unfolding best_by
    best_found {n} e = by (ltb best 1099511627775) refl e
      where
        enters_by : Entered t view spots key settled best → best ≡ n → Enters (system_by t view spots) (GoodPlace t) cost_to n
        enters_by w same = Enters.enters w.good w.no_goal (key_cost w.is) w.legal w.goal (w.sum ∙ same)

        by : (b : Bool) → ltb best 1099511627775 ≡ b → cond b (fin best) inf ≡ fin n → Enters (system_by t view spots) (GoodPlace t) cost_to n
        by true test is = enters_by (so_far.found (ltb-true best 1099511627775 test)) (same_fin refl is)
        by false test is = absurd (inf_not_fin is)

    pub spread_forward : Forward (system_by t view spots) (GoodPlace t) (starts_by t view spots) h cost_to (best_by best)
    spread_forward =
        record {
          starts = λ {v} h is. key_cost (so_far.starts v h (eqb-true (get_or spots v 0) 1 is));
          reached = λ good g at. so_far.reached good (cost_key _ at);
          closed = λ good g at Near-by legal no_goal_lem.
              let (some, up) = so_far.closed good (within_settled good (cost_key _ at) Near-by) (tried legal) (cost_key _ at) legal no_goal_lem in
              key_within _ some up;
          least = λ good g at Near-by legal is-goal. best-within good (within_settled good (cost_key _ at) Near-by) (cost_key _ at) legal is-goal;
          found = best_found;
        }
