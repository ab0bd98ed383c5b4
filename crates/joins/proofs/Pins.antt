-- No join makes an unjoined pin.
--     record_fewer      a vertex that is an unjoined pin after a record was one before
use Prim.Native.Nat.{ℕ, zero, suc}
use mathlib.Core.Path.{◌≡◌}
use mathlib.Core.List.{List, [], ◌∷◌}
use native.Mathlib.Omega.{arith}
use lib.ListN.{get_or, set}
use Rattle.rules.specs.Views.{View}
use Rattle.rules.specs.Prices.{Tech}
use Rattle.rules.specs.Steps.{Made, Stepped, illegal, legal, step}
use Rattle.rules.specs.Joins.{Record, none, join}
use Rattle.walker.specs.Entering.{Arrays, Gone, gone_at, gone_on, enter_by, and_enter, enter_all, left_in}
use Rattle.joins.specs.Joined.{left_by}

-- a byte of the tree is none of an unjoined pin
set_fewer : (xs : List ℕ) (v w : ℕ) → get_or (set xs v 1) w 0 ≡ 2 → get_or xs w 0 ≡ 2
set_fewer [] v w is = is
set_fewer (x ∷ xs) zero zero is = absurd (omega arith)
set_fewer (x ∷ xs) zero (suc w) is = is
set_fewer (x ∷ xs) (suc v) zero is = is
set_fewer (x ∷ xs) (suc v) (suc w) is = set_fewer xs v w is

module _ (t : Tech) (view : View) (net : ℕ) (found : Arrays) (v : ℕ) where
  -- while moves are entered
  enter_fewer : (ms : List ℕ) (gone : Gone) (arrays : Arrays) → (get_or arrays.spots v 0 ≡ 2 → get_or found.spots v 0 ≡ 2)
      → get_or (left_in found (enter_all t view net ms gone arrays)).spots v 0 ≡ 2 → get_or found.spots v 0 ≡ 2
  unfolding enter_all and_enter left_in enter_by
  enter_fewer [] gone arrays was is = was is
  enter_fewer (m ∷ ms) gone arrays was is = by (step t view gone.place m) (λ made. enter_fewer ms (gone_on gone made) (enter_by net made arrays)) is
    where
      by : (s : Stepped) → ((made : Made) → (get_or (enter_by net made arrays).spots v 0 ≡ 2 → get_or found.spots v 0 ≡ 2)
          → get_or (left_in found (enter_all t view net ms (gone_on gone made) (enter_by net made arrays))).spots v 0 ≡ 2 → get_or found.spots v 0 ≡ 2)
          → get_or (left_in found (and_enter s (λ made. enter_all t view net ms (gone_on gone made) (enter_by net made arrays)))).spots v 0 ≡ 2
          → get_or found.spots v 0 ≡ 2
      by illegal again is = is
      by (legal made) again is = again made (λ set_is. was (set_fewer arrays.spots made.next.vertex v set_is)) is

  pub record_fewer : (r : Record) → get_or (left_by t view net r found).spots v 0 ≡ 2 → get_or found.spots v 0 ≡ 2
  unfolding left_by
  record_fewer none is = is
  record_fewer (join start moves cost) is = enter_fewer moves (gone_at start) found (λ was. was) is
