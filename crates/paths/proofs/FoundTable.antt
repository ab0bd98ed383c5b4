-- What is found is what a table tells: its cost, and the moves that follow it.
--     found_at, found_table        from a place
--     start_found, found_best      from the best of numbered starts, the start before its moves
use Prim.Native.Nat.{ℕ, zero, suc, ◌≤◌, ◌<◌}
use native.Mathlib.Nat.{zero-add}
use native.Mathlib.Omega.{arith}
use mathlib.Core.Path.{◌≡◌, refl, sym, ap, ◌∙◌}
use mathlib.Core.Logic.{◌⊎◌, inl, inr}
use mathlib.Core.List.{List, ◌∷◌}
use mathlib.Core.Bool.{Bool, true, false, cond}
use lib.Dec.{ltb}
use Rattle.paths.specs.Systems.{System}
use Rattle.paths.specs.Rivals.{Before}
use Rattle.paths.specs.Costs.{Cost, fin, inf}
use Rattle.paths.specs.Finding.{Found, none, found, cheaper, cheapest_of, before, cheapest_in}
use Rattle.paths.specs.Distances.{follow}
use Rattle.paths.specs.Tables.{Lawful, Table}
use Rattle.paths.specs.Starts.{Choice, or_next, best, Starts, start_cost}
use Rattle.paths.proofs.Routes.{route_rival}
use Rattle.paths.proofs.Following.{follow_goal}
use Rattle.paths.proofs.Tables.{table_bounds}
use Rattle.paths.proofs.First.{follow_route, follow_first, follow_short}
use Rattle.paths.proofs.Orders.{before_irrefl, before_trans}
use Rattle.paths.proofs.Finding.{Earlier, EarliestIn, no_route, aRoute, at_goal, earliest_in}

-- a cost with moves, or none
unfoldable pub found_at : Cost → List ℕ → Found
found_at inf ms = none
found_at (fin c) ms = found c ms

module _ {S : System} {Good : S.Place → Type 0} {code : S.Place → ℕ} {size dearest : ℕ} (laws : Lawful S Good code size dearest)
    {D : S.Place → Cost} (T : Table S Good D) where
  -- a route that comes no later than the one that follows the table is that one
  same_route : {s : S.Place} {c d : ℕ} {ms : List ℕ} → Good s → S.goal s ≡ false → D s ≡ fin d → EarliestIn S size s (found c ms)
      → found c ms ≡ found d (follow S D size s)
  unfolding found_at
  same_route {s} {c} {d} {ms} good g e (aRoute route first) =
      by (first (follow S D size s) d (follow_route laws T size (omega arith) good g e) (omega (arith, follow_short laws T size good)))
    where
      bound : d ≤ c
      bound = rw e at (table_bounds laws T good (route_rival route))

      no_sooner : c ≡ d → Before ms (follow S D size s) → (ms ≡ follow S D size s) ⊎ Before (follow S D size s) ms → ⊥
      no_sooner same b (inl is) = before_irrefl (rw is at b)
      no_sooner same b (inr after) = before_irrefl (before_trans b after)

      by : Earlier c ms d (follow S D size s) → found c ms ≡ found d (follow S D size s)
      by (inl h) = absurd (omega (arith, h, bound))
      by (inr (same, inl is)) = λ i. found (same i) (is i)
      by (inr (same, inr b)) = absurd (no_sooner same b (follow_first laws T size good g e (rw same at route)))

  -- from a place
  pub found_table : {s : S.Place} → Good s → cheapest_in S size s ≡ found_at (D s) (follow S D size s)
  unfolding found_at
  found_table {s} good = by (S.goal s) refl
    where
      way : S.goal s ≡ false → (x : Cost) → D s ≡ x → (f : Found) → EarliestIn S size s f → f ≡ found_at x (follow S D size s)
      way g inf e none c = refl
      way g inf e (found c ms) (aRoute route first) = absurd (rw e at (table_bounds laws T good (route_rival route)))
      way g (fin d) e none (no_route empty) =
          absurd (empty (follow S D size s) d (follow_route laws T size (omega arith) good g e) (omega (arith, follow_short laws T size good)))
      way g (fin d) e (found c ms) chosen = same_route good g e chosen

      by : (b : Bool) → S.goal s ≡ b → cheapest_in S size s ≡ found_at (D s) (follow S D size s)
      by true g = at_goal S size s g ∙ sym (rw (T.goals good g, follow_goal S D size g) refl)
      by false g = way g (D s) refl (cheapest_in S size s) (earliest_in S size s g)

  module _ (X : Starts S) where
    -- what is found from a number, where it is a start: the start before its moves
    abbrev pub start_found : ℕ → Found
    start_found v = cond (X.is_start v) (before v 0 (cheapest_in S size (X.place v))) none

    -- the same by what was chosen
    unfoldable pub choice_found : Choice → Found
    choice_found Choice.none = none
    choice_found (Choice.first v c) = found c (v ∷ follow S D size (X.place v))

    -- by the cost from a number
    cost_found : (v : ℕ) → Cost → Found
    cost_found v inf = none
    cost_found v (fin c) = found c (v ∷ follow S D size (X.place v))

    -- what is found from a number is by its cost
    start_cost_lem : (v : ℕ) → Good (X.place v) → start_found v ≡ cost_found v (start_cost X D v)
    unfolding start_cost before cost_found found_at
    start_cost_lem v good = by (X.is_start v)
      where
        with_start : (x : Cost) → before v 0 (found_at x (follow S D size (X.place v))) ≡ cost_found v x
        with_start inf = refl
        with_start (fin c) = rw zero-add refl

        by : (b : Bool) → cond b (before v 0 (cheapest_in S size (X.place v))) none ≡ cost_found v (cond b (D (X.place v)) inf)
        by true = ap (before v 0) (found_table good) ∙ with_start (D (X.place v))
        by false = refl

    -- the cheaper is the one that is chosen
    next_found : (b : Choice) (n : ℕ) (x : Cost) → cheaper (choice_found b) (cost_found n x) ≡ choice_found (or_next b n x)
    unfolding cheaper choice_found cost_found or_next
    next_found Choice.none n inf = refl
    next_found Choice.none n (fin d) = refl
    next_found (Choice.first i c) n inf = refl
    next_found (Choice.first i c) n (fin d) = by (ltb d c)
      where
        by : (t : Bool) → cond t (found d (n ∷ follow S D size (X.place n))) (found c (i ∷ follow S D size (X.place i)))
            ≡ choice_found (cond t (Choice.first n d) (Choice.first i c))
        by true = refl
        by false = refl

    -- from the best of numbered starts
    pub found_best : (n : ℕ) → ((v : ℕ) → v < n → Good (X.place v)) → cheapest_of start_found n ≡ choice_found (best (start_cost X D) n)
    unfolding cheapest_of best choice_found
    found_best zero good = refl
    found_best (suc n) good =
        (λ i. cheaper (found_best n (λ v h. good v (omega (arith, h))) i) (start_cost_lem n (good n (omega arith)) i))
        ∙ next_found (best (start_cost X D) n) n (start_cost X D n)
