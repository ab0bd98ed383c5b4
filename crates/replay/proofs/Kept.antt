-- Past the grid the map is as found.
--     moves_kept, join_kept, net_kept     while moves, a join, the records of a net are read
use Prim.Native.Nat.{ℕ, zero, suc, ◌+◌, ◌*◌}
use mathlib.Core.Path.{◌≡◌, refl}
use mathlib.Core.List.{List}
use mathlib.Core.Bool.{Bool, true, false, cond}
use lib.Dec.{eqb}
use Rattle.bits.specs.Bits.{field}
use Rattle.bits.specs.Puts.{AllBelow}
use Rattle.job.specs.Grid.{vertices}
use Rattle.job.specs.Reading.{Read, refused, good}
use Rattle.rules.specs.Views.{View}
use Rattle.rules.specs.Prices.{Tech}
use Rattle.rules.specs.Places.{GoodTech, GoodPlace}
use Rattle.rules.specs.Steps.{Made}
use Rattle.rules.specs.Routings.{Totals, with_join, with_net}
use Rattle.rules.proofs.Places.{start_good}
use Rattle.plan.specs.Reading.{group}
use Rattle.metal.specs.Codes.{Beyond}
use Rattle.metal.proofs.Slices.{beyond_refl, beyond_trans}
use Rattle.tree.specs.Spots.{some_unjoined}
use Rattle.walker.specs.Entering.{Arrays, enter_by, Gone, gone_at, gone_on}
use Rattle.walker.proofs.Landing.{step_lands}
use Rattle.walker.proofs.Entering.{enter_kept}
use Rattle.replay.specs.Following.{Came, came, stopped, and_on, and_read, arrays_of, judged_move, moves_from, read_start, Joined, cost_from, join_from, Ended, by_flag, with_join_counts, net_from}
use Rattle.replay.specs.declared.start.Start.{Start}
use Rattle.replay.proofs.Parts.{judged-step}
use Rattle.replay.proofs.Joining.{cost_arrays, start_bounds}

module _ (bits : List ℕ) (below : AllBelow 2 bits) {t : Tech} (view : View) (net : ℕ) (good-t : GoodTech t) where
  -- what reading leaves, past the grid
  abbrev Keeps : {A : Type 0} → Arrays → Came A → Type 0
  Keeps arrays x = Beyond (vertices t.grid) (arrays_of x).codes arrays.codes

  -- while moves are read
  moves_kept : (n at : ℕ) (gone : Gone) (arrays : Arrays) → GoodPlace t gone.place → Keeps arrays (moves_from bits t view net n at gone arrays)
  unfolding moves_from and_read arrays_of gone_on
  moves_kept zero at gone arrays on = beyond_refl _ _
  moves_kept (suc n) at gone arrays on =
      by (judged_move bits t view arrays.spots (eqb n 0) at gone.place) refl (λ made. moves_kept n (at + 2) (gone_on gone made) (enter_by net made arrays))
    where
      by : (x : Read Made) → judged_move bits t view arrays.spots (eqb n 0) at gone.place ≡ x
          → ((made : Made) → GoodPlace t (gone_on gone made).place
          → Keeps (enter_by net made arrays) (moves_from bits t view net n (at + 2) (gone_on gone made) (enter_by net made arrays)))
          → Keeps arrays (and_read arrays x (λ made. moves_from bits t view net n (at + 2) (gone_on gone made) (enter_by net made arrays)))
      by (refused a b) e rest = beyond_refl _ _
      by (good made) e rest =
          let lands = step_lands view gone.place (field bits at 2) good-t on (judged-step bits t view arrays.spots (eqb n 0) at gone.place e) in
          beyond_trans (rest made lands.place) (enter_kept net made arrays lands)

  -- while a join is read
  pub join_kept : (at : ℕ) (arrays : Arrays) → Keeps arrays (join_from bits t view net at arrays)
  unfolding join_from and_read arrays_of gone_at
  join_kept at arrays = by (read_start bits t.grid arrays.spots at) refl
    where
      by : (x : Read Start) → read_start bits t.grid arrays.spots at ≡ x → Keeps arrays (and_read arrays x (λ start.
          cost_from bits (at + 39 + 2 * start.moves) (moves_from bits t view net start.moves (at + 39) (gone_at start.vertex) arrays)))
      by (refused n p) e = beyond_refl _ _
      by (good start) e =
          let bounds = start_bounds bits t.grid arrays.spots at below e in
          rw (cost_arrays bits (at + 39 + 2 * start.moves) _) (moves_kept start.moves (at + 39) (gone_at start.vertex) arrays (start_good bounds.0))

  -- while the records of a net are read
  pub net_kept : (pins : List ℕ) (n at : ℕ) (totals : Totals) (counts : List ℕ) (arrays : Arrays)
      → Keeps arrays (net_from bits t view net pins n at totals counts arrays)
  unfolding net_from and_read and_on by_flag arrays_of
  net_kept pins zero at totals counts arrays = beyond_refl _ _
  net_kept pins (suc n) at totals counts arrays =
      by_some (some_unjoined arrays.spots pins) (λ at totals counts arrays. net_kept pins n at totals counts arrays)
    where
      records : Joined → Arrays → Came Ended
      records joined after =
          net_from bits t view net pins n joined.next (with_join totals joined.gone.made)
          (with_join_counts bits t view (at + 1) joined.gone.made counts) after

      Rest : Type 0
      Rest = (at : ℕ) (totals : Totals) (counts : List ℕ) (arrays : Arrays) → Keeps arrays (net_from bits t view net pins n at totals counts arrays)

      by_join : Rest → (x : Came Joined) → Keeps arrays x → Keeps arrays (and_on x records)
      by_join rest (stopped m q after) kept = kept
      by_join rest (came joined after) kept = beyond_trans (rest joined.next (with_join totals joined.gone.made) _ after) kept

      by_flagged : Rest → (flag : ℕ)
          → Keeps arrays (by_flag flag (came (record { totals = totals; counts = counts; next = at + 1 }) arrays) (and_on (join_from bits t view net (at + 1) arrays) records))
      by_flagged rest zero = beyond_refl _ _
      by_flagged rest (suc one) = by_join rest (join_from bits t view net (at + 1) arrays) (join_kept (at + 1) arrays)

      by_whole : Rest → (x : Read Unit) → Keeps arrays (and_read arrays x (λ whole. by_flag (field bits at 1)
          (came (record { totals = totals; counts = counts; next = at + 1 }) arrays) (and_on (join_from bits t view net (at + 1) arrays) records)))
      by_whole rest (refused m q) = beyond_refl _ _
      by_whole rest (good whole) = by_flagged rest (field bits at 1)

      by_some : (b : Bool) → Rest → Keeps arrays (cond b (and_read arrays (group bits at 1) (λ whole. by_flag (field bits at 1)
          (came (record { totals = totals; counts = counts; next = at + 1 }) arrays) (and_on (join_from bits t view net (at + 1) arrays) records)))
          (came (record { totals = with_net totals; counts = counts; next = at }) arrays))
      by_some true rest = by_whole rest (group bits at 1)
      by_some false rest = beyond_refl _ _
