-- The next record, in the code's words.
--     none_found         where the search found no unjoined pin there is no join
--     laid_end           how the work slice is laid out at its end
--     work_back          the work slice is left as it was lent
use Prim.Native.Nat.{ℕ, ◌+◌, ◌≤◌}
use mathlib.Core.Path.{◌≡◌, refl, sym, subst, ◌∙◌}
use mathlib.Core.List.{List}
use borrow.Author.Tests.{le-ltb}
use Rattle.paths.specs.Costs.{inf}
use Rattle.paths.specs.Forward.{Forward}
use Rattle.rules.specs.Views.{View}
use Rattle.rules.specs.Prices.{Tech}
use Rattle.rules.specs.Joins.{Record, places}
use Rattle.rules.specs.Places.{GoodPlace, GoodTech}
use Rattle.metal.specs.Codes.{Beyond, Bare}
use Rattle.metal.proofs.Slices.{beyond_refl, beyond_trans, zeroed_only}
use Rattle.bounds.specs.Bounds.{Bounding}
use Rattle.search.specs.Fronts.{system_by, starts_by, reached_by, at_least, best_by}
use Rattle.search.specs.Charts.{Blank}
use Rattle.search.specs.Lists.{Laid}
use Rattle.search.specs.Spreads.{Ended}
use Rattle.search.proofs.Settling.{ended_forward}
use Rattle.joins.specs.Traces.{join_by_spots}
use Rattle.joins.proofs.Found.{found_nothing}

-- 2^40 - 1 and more is no cost
no_best : (best : ℕ) → 1099511627775 ≤ best → best_by best ≡ inf
unfolding best_by
no_best best h = rw (le-ltb best 1099511627775 h) refl

-- where the search found no unjoined pin there is no join
pub none_found : {t : Tech} (view : View) (spots : List ℕ) → GoodTech t → {bounds near work : List ℕ} {size settled best : ℕ} → Bounding t spots bounds
    → Ended t view spots bounds near work size settled best → 1099511627775 ≤ best → join_by_spots t view spots ≡ Record.none
none_found {t} view spots good {bounds = bounds} {work = work} {best = best} bounding ended none =
    found_nothing t view spots good bounds work bounding
    (subst (Forward (system_by t view spots) (GoodPlace t) (starts_by t view spots) (at_least t bounds) (reached_by t bounds work)) (no_best best none) (ended_forward view good bounding ended))

-- the work slice is lent zero, and left so
pub work_back : {t : Tech} {n : ℕ} {found searched left : List ℕ} → n ≡ places t → Blank t found → Bare (n + n) left → Beyond (n + n) left searched
    → Beyond (places t + places t) searched found → left ≡ found
work_back {found = found} whole blank bare cleared kept =
    zeroed_only (beyond_trans (rw whole at cleared) kept) (rw whole at bare) blank.room ∙ sym (zeroed_only (beyond_refl _ found) blank.bare blank.room)

-- how the work slice is laid out at the end of a search
pub laid_end : {t : Tech} {view : View} {spots bounds near work : List ℕ} {size settled best : ℕ} → Ended t view spots bounds near work size settled best
    → (last : ℕ) × Laid (places t) size settled last work
laid_end ended = (ended.between.last, ended.between.laid)
