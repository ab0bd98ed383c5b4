-- The join that a forward search finds, by leads.
--     OnBest                           a place on a cheapest join
--     Leads                            a move that leads to a goal at the best cost, or on to such a place at
--                                      its exact distance
--     Leading                          what a pass backwards over the places leaves: a lead where a move
--                                      leads on so
--     is_lead, lowest_lead             the test for such a move; the lowest of them
--     follow_leads                     the route that takes it at each place
--     is_led, led_start, join_leads    the lowest start with a lead; the join from there
-- E, h as in Forward; C, the cost of the cheapest goal found, is a number here. That no lead stands beyond C
-- makes chains of leads end at a goal: each move of one costs at least 1. Goals carry no lead: a move into
-- one is told by the goal.
use Rattle.std.specs.Prelude.{ℕ, zero, suc, ◌+◌, ◌≤◌, ◌≡◌, List, [], Bool, true, false, cond, eqb}
use Rattle.paths.specs.Systems.{Step, blocked, to, System, Legal}
use Rattle.paths.specs.Distances.{is_cost, lowest_from, onward}
use Rattle.paths.specs.Costs.{Cost, fin, inf}
use Rattle.paths.specs.Starts.{Starts}
use Rattle.paths.specs.Rivals.{Join}

module _ (S : System) (E : S.Place → Cost) (C : ℕ) where
  -- p is on a cheapest join, D being the least cost to go: to p it costs e, and from there d
  pub data OnBest (D : S.Place → Cost) (p : S.Place) : Type 0 where
    on_best : {e d : ℕ} → S.goal p ≡ false → E p ≡ fin e → D p ≡ fin d → e + d ≡ C → OnBest D p

  -- from p, to which it costs e, move m leads to a goal at C, or on to a place with On at its exact distance
  pub data Leads (On : S.Place → Type 0) (p : S.Place) (e m : ℕ) : Type 0 where
    ends : {q : S.Place} {c : ℕ} → Legal S p m c q → S.goal q ≡ true → e + c ≡ C → Leads On p e m
    goes_on : {q : S.Place} {c : ℕ} → Legal S p m c q → S.goal q ≡ false → E q ≡ fin (e + c) → On q → Leads On p e m

  -- what a pass backwards leaves: within C, a lead just where a move leads to a goal at C or on to a lead;
  -- and beyond C none
  pub record Leading (Good : S.Place → Type 0) (h : S.Place → ℕ) (led : S.Place → Bool) : Type 0 where
    pub near : {p : S.Place} {e : ℕ} → Good p → S.goal p ≡ false → E p ≡ fin e → led p ≡ true → e ≤ C
    pub leads : {p : S.Place} {e : ℕ} → Good p → S.goal p ≡ false → E p ≡ fin e → led p ≡ true
        → (m : ℕ) × Leads (λ q. led q ≡ true) p e m
    pub made : {p : S.Place} {e m : ℕ} → Good p → S.goal p ≡ false → E p ≡ fin e → e + h p ≤ C
        → Leads (λ q. led q ≡ true) p e m → led p ≡ true

  module _ (led : S.Place → Bool) where
    -- whether a move, made at cost e, leads to a goal at C or on to a lead at its exact distance
    unfoldable pub is_lead : (e : ℕ) → Step S.Place → Bool
    is_lead e blocked = false
    is_lead e (to c q) = cond (S.goal q) (eqb (e + c) C) (cond (led q) (is_cost (e + c) (E q)) false)

    -- the lowest move that does
    unfoldable pub lowest_lead : S.Place → (e : ℕ) → ℕ
    lowest_lead p e = lowest_from (λ m. is_lead e (S.step p m)) 0 S.moves

    -- the lowest such move from a place that the search came to, and what follows
    unfoldable pub lead_on : S.Place → Cost → (S.Place → List ℕ) → List ℕ
    lead_on p inf next = []
    lead_on p (fin e) next = let m = lowest_lead p e in onward m next (S.step p m)

    -- the route from a place: at each the lowest such move, until a goal, at most k moves
    unfoldable pub follow_leads : (k : ℕ) → S.Place → List ℕ
    follow_leads zero p = []
    follow_leads (suc k) p = elim (S.goal p) [ true ↦ [] | false ↦ lead_on p (E p) (λ q. follow_leads k q) ]

-- whether a number is a start with a lead
abbrev pub is_led : {S : System} → Starts S → (S.Place → Bool) → ℕ → Bool
is_led X led v = cond (X.is_start v) (led (X.place v)) false

-- the lowest start with a lead
unfoldable pub led_start : {S : System} → Starts S → (S.Place → Bool) → ℕ
led_start X led = lowest_from (is_led X led) 0 X.many

-- the join from the lowest start with a lead, at most k moves
abbrev pub join_leads : {S : System} → Starts S → (S.Place → Cost) → (C : ℕ) → (S.Place → Bool) → (k : ℕ) → Join
join_leads {S} X E C led k = record { cost = C; start = led_start X led; moves = follow_leads S E C led k (X.place (led_start X led)) }
