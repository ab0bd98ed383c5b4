-- Places and moves satisfy what the laws of cheapest walks ask.
--     lawful          good places by their codes, and priced moves between them
--     costs_small     so many moves as there are places cost less than 2^40
use Prim.Native.Nat.{ℕ, ◌*◌, ◌^◌, ◌<◌}
use mathlib.Core.List.{List}
use native.Mathlib.Nat.{mul-le-mul, le_refl, lt_of_le_of_lt}
use native.Mathlib.Omega.{arith}
use Rattle.paths.specs.Tables.{Lawful}
use Rattle.rules.specs.Views.{View}
use Rattle.rules.specs.Prices.{Tech}
use Rattle.rules.specs.Walks.{system}
use Rattle.rules.specs.Joins.{places}
use Rattle.rules.specs.Places.{place_code, GoodPlace, GoodTech, dearest_move}
use Rattle.rules.proofs.Places.{code_below, code_apart, places_small}
use Rattle.rules.proofs.Moves.{step_keeps, step-costs, step_limits}

-- good places by their codes, and priced moves between them
pub lawful : {t : Tech} (view : View) (unjoined : List ℕ) → GoodTech t → Lawful (system t view unjoined) (GoodPlace t) (place_code t) (places t) dearest_move
lawful {t} view unjoined good =
    record {
      keeps = λ {s} {m = m} h l. step_keeps view s m good h l.leads;
      costs = λ {s} {m = m} h l. step-costs view s m good h l.leads;
      limits = λ {s} {m = m} h l. step_limits view s m good h l.leads;
      below = λ h. code_below h;
      apart = λ h k e. code_apart good h k e;
    }

-- so many moves as there are places cost less than 2^40
pub costs_small : {t : Tech} → GoodTech t → dearest_move * places t < 2 ^ 40
costs_small {t} good = lt_of_le_of_lt (mul-le-mul (le_refl dearest_move) (places_small good)) (omega arith)
