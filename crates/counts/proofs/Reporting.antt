-- The loops over a report and a plan's counts.
--     over_turn, over_found, over_done     looking for a count that would not fit
--     over_pair, first_told                the first such count
--     none_over_lem, none_fits             where none is found, every sum fits
--     AddedTo, added_turn, added_done      adding them, one after the other
--     room_counted, room_number, room_long
--                                          room for the counts of a plan; 19 without; it is long enough
--     room_short, room_over, room_whole    the answers about room
use Prim.Native.Nat.{ℕ, zero, suc, ◌+◌, ◌-◌, ◌/◌, ◌^◌, ◌≤◌, ◌<◌}
use mathlib.Core.Path.{◌≡◌, refl, sym, ap, ◌∙◌}
use mathlib.Core.List.{List}
use mathlib.Core.Bool.{Bool, true, false, cond}
use native.Mathlib.Decide.{dec_lt}
use native.Mathlib.Omega.{arith}
use lib.ListN.{length, get_or, set, replicate, length-set, get_or-eq_default}
use lib.Seq.{get_or-set_same, get_or-set_other, ext_get_or}
use lib.Dec.{leb, ltb}
use Rattle.std.specs.List.{zip, position_or_len}
use Rattle.std.proofs.lemmas.List.Sums.{fails_before_first, passes_at_first}
use Rattle.std.proofs.lemmas.Slice.Zip.{length-zip, get_or-zip}
use Rattle.std.proofs.Common.{Some, None, Result, Ok, Err}
use borrow.Author.Tests.{ltb-true, ltb-false, lt-ltb, le-ltb, le-leb, lt-leb}
use Rattle.job.specs.Reading.{refused, good, ◌>>◌, rule}
use Rattle.job.specs.Refusals.{read_of}
use Rattle.job.specs.declared.refusal.Refusal.TheVariants.{Report}
use Rattle.job.specs.declared.refusal.Refused.{Refused}
use Rattle.job.proofs.Tests.{tests}
use Rattle.job.proofs.Binds.{steps}
use Rattle.counts.specs.Counts.{Count, report_need, counted}
use Rattle.counts.specs.Reports.{none_over, room_in}
use Rattle.counts.specs.Structs.{plus, over_at, left_of}
use Rattle.counts.proofs.Adding.{Placed, plus-length, plus_at, plus-counted}

-- ---- looking for a count that would not fit

module _ (report counts : List ℕ) (long : 48 ≤ length report) (i : ℕ) where
  -- one that fits: the rest is looked at
  pub over_turn : i < 48 → get_or report i 0 + get_or counts i 0 < 2 ^ 64
      → none_over (plus report counts) i (48 - i) ≡ none_over (plus report counts) (i + 1) (48 - (i + 1))
  unfolding none_over rule ◌>>◌
  over_turn on small =
      let more : 48 - i ≡ suc (48 - (i + 1)) = omega (arith, on) in
      let next : i + 1 ≡ suc i = omega arith in
      let sum = plus_at report counts i (omega (arith, on, long)) in
      rw (more, next, lt-ltb (get_or (plus report counts) i 0) (2 ^ 64) (omega (arith, sum, small))) refl

  -- one that does not
  pub over_found : i < 48 → 2 ^ 64 ≤ get_or report i 0 + get_or counts i 0 → none_over (plus report counts) i (48 - i) ≡ over_at (Some i)
  unfolding none_over rule ◌>>◌ over_at
  over_found on large =
      let more : 48 - i ≡ suc (48 - (i + 1)) = omega (arith, on) in
      let sum = plus_at report counts i (omega (arith, on, long)) in
      rw (more, le-ltb (get_or (plus report counts) i 0) (2 ^ 64) (omega (arith, sum, large))) refl

  -- none is left
  pub over_done : 48 ≤ i → none_over (plus report counts) i (48 - i) ≡ over_at None
  unfolding none_over over_at
  over_done past = let none : 48 - i ≡ 0 = omega (arith, past) in rw none refl

-- a count that would not fit, beside the number that it is added to
abbrev pub over_pair : ℕ × ℕ → Bool
over_pair p = ltb (18446744073709551615 - p.0) p.1

-- the first of them
module _ (report counts : List ℕ) (long : 48 ≤ length report) (many : length counts ≡ 48) (fits : (i : ℕ) → get_or report i 0 < 2 ^ 64) where
  -- the numbers of both, in pairs
  abbrev pub both : List (ℕ × ℕ)
  both = zip report counts

  abbrev pub at : ℕ
  at = position_or_len over_pair both

  size : length both ≡ 48
  size = omega (arith, length-zip report counts, long, many)

  pair_at : (k : ℕ) → k < 48 → get_or both k (0, 0) ≡ (get_or report k 0, get_or counts k 0)
  pair_at k on = get_or-zip report counts k (0, 0) (omega (arith, on, long)) (omega (arith, on, many))

  -- those before it fit
  fit_before : (k : ℕ) → k < 48 → k < at → get_or report k 0 + get_or counts k 0 < 2 ^ 64
  fit_before k on before =
      let told = rw (pair_at k on) at (fails_before_first over_pair both k (0, 0) before) in
      omega (arith, ltb-false _ _ told, fits k)

  -- so they are passed
  passed : (k : ℕ) → k ≤ 48 → k ≤ at → none_over (plus report counts) 0 48 ≡ none_over (plus report counts) k (48 - k)
  passed zero on before = refl
  passed (suc k) on before =
      let next : k + 1 ≡ suc k = omega arith in
      passed k (omega (arith, on)) (omega (arith, before))
      ∙ rw (← next) (over_turn report counts long k (omega (arith, on)) (fit_before k (omega (arith, on)) (omega (arith, before))))

  pub first_told : none_over (plus report counts) 0 48 ≡ over_at (cond (ltb at (length both)) (Some at) None)
  first_told = rw size (by (dec_lt at 48))
    where
      by : Dec (at < 48) → none_over (plus report counts) 0 48 ≡ over_at (cond (ltb at 48) (Some at) None)
      by (yes on) =
          let told = rw (pair_at at on) at (passes_at_first over_pair both (0, 0) (omega (arith, on, size))) in
          rw (lt-ltb at 48 on) (passed at (omega (arith, on)) (omega arith) ∙ over_found report counts long at on (omega (arith, ltb-true _ _ told)))
      by (no past) =
          rw (le-ltb at 48 (omega (arith, past))) (passed 48 (omega arith) (omega (arith, past)) ∙ over_done report counts long 48 (omega arith))

-- n numbers from one on fit, where none is over
none_over_lem : (report : List ℕ) (n at : ℕ) → none_over report at n ≡ good tt → (i : ℕ) → at ≤ i → i < at + n → get_or report i 0 < 2 ^ 64
unfolding none_over
none_over_lem report zero at h i low high = absurd (omega (arith, low, high))
none_over_lem report (suc n) at h i low high = let (this, rest) = simp (steps, tests) at h in by (dec_lt at i) this (none_over_lem report n (suc at) rest i)
  where
    by : Dec (at < i) → get_or report at 0 < 2 ^ 64 → (suc at ≤ i → i < suc at + n → get_or report i 0 < 2 ^ 64) → get_or report i 0 < 2 ^ 64
    by (yes past) this rest = rest past (omega (arith, high))
    by (no here) this rest = let same : at ≡ i = omega (arith, low, here) in rw same at this

-- where none is found, every sum fits
pub none_fits : (report counts : List ℕ) → 48 ≤ length report → none_over (plus report counts) 0 48 ≡ over_at None
    → (i : ℕ) → i < 48 → get_or report i 0 + get_or counts i 0 < 2 ^ 64
unfolding over_at
none_fits report counts long none i on =
    omega (arith, plus_at report counts i (omega (arith, on, long)), none_over_lem (plus report counts) 48 0 none i (omega arith) on)

-- ---- adding them

module _ (before counts : List ℕ) where
  -- the counts below one have been added
  pub record AddedTo (report : List ℕ) (i : ℕ) : Type 0 where
    pub long : length report ≡ length before
    pub done : (k : ℕ) → k < i → get_or report k 0 ≡ get_or before k 0 + get_or counts k 0
    pub left : (k : ℕ) → i ≤ k → get_or report k 0 ≡ get_or before k 0

  -- none
  pub added_none : AddedTo before 0
  added_none = record { long = refl; done = λ k h. absurd (omega (arith, h)); left = λ k h. refl }

  -- one more
  pub added_turn : (report : List ℕ) (i : ℕ) → AddedTo report i → i < length before → AddedTo (set report i (get_or report i 0 + get_or counts i 0)) (i + 1)
  added_turn report i so_far on =
      record {
        long = length-set report i _ ∙ so_far.long;
        done = λ k h. by k h (dec_lt k i);
        left = λ k h. get_or-set_other report i k _ 0 (omega (arith, h)) ∙ so_far.left k (omega (arith, h));
      }
    where
      by : (k : ℕ) → k < i + 1 → Dec (k < i) → get_or (set report i (get_or report i 0 + get_or counts i 0)) k 0 ≡ get_or before k 0 + get_or counts k 0
      by k h (yes less) = get_or-set_other report i k _ 0 (omega (arith, less)) ∙ so_far.done k less
      by k h (no last) =
          let here : k ≡ i = omega (arith, h, last) in
          rw here (get_or-set_same report i _ 0 (omega (arith, so_far.long, on)) ∙ ap (λ (n : ℕ). n + get_or counts i 0) (so_far.left i (omega arith)))

  -- all of them
  pub added_done : (report : List ℕ) (i : ℕ) → AddedTo report i → length counts ≤ i → report ≡ plus before counts
  added_done report i so_far past =
      ext_get_or 0 report (plus before counts) (so_far.long ∙ sym (plus-length before counts)) (λ k h.
      by k (omega (arith, h, so_far.long)) (dec_lt k i))
    where
      by : (k : ℕ) → k < length before → Dec (k < i) → get_or report k 0 ≡ get_or (plus before counts) k 0
      by k h (yes less) = so_far.done k less ∙ sym (plus_at before counts k h)
      by k h (no beyond) =
          let none = get_or-eq_default counts 0 {n = k} (omega (arith, past, beyond)) in
          omega (arith, so_far.left k (omega (arith, beyond)), plus_at before counts k h, none)

-- ---- the answers

-- room for the counts of a plan, with them from nothing added
pub room_counted : (cs : List Count) (report : List ℕ) → Placed cs
    → room_in report (plus report (counted cs (replicate report_need 0))) ≡ room_in report (counted cs report)
unfolding room_in rule ◌>>◌
room_counted cs report placed = by (dec_lt (length report) 48)
  where
    by : Dec (length report < 48) → room_in report (plus report (counted cs (replicate report_need 0))) ≡ room_in report (counted cs report)
    by (yes short) = rw (lt-leb 48 (length report) short) refl
    by (no long) = rw (plus-counted cs report placed (omega (arith, long))) refl

-- without room the number is 19
pub room_number : (report more : List ℕ) {n p : ℕ} → room_in report more ≡ refused n p → n ≡ 19
unfolding room_in none_over rule ◌>>◌
room_number report more {n} {p} = by_length (leb 48 (length report))
  where
    over : (k at : ℕ) → none_over more at k ≡ refused n p → n ≡ 19
    over zero at e = let z : ◌≡◌ {A = ℕ} 0 1 = cc in absurd (omega arith)
    over (suc k) at e = by (ltb (get_or more at 0) (2 ^ 64)) (over k (suc at)) e
      where
        by : (b : Bool) → (none_over more (suc at) k ≡ refused n p → n ≡ 19) → ◌>>◌ (rule 19 (at / 6) b) (none_over more (suc at) k) ≡ refused n p → n ≡ 19
        by true rest h = rest h
        by false rest h = let number : 19 ≡ n = cc in sym number

    by_length : (b : Bool) → ◌>>◌ (rule 19 8 b) (none_over more 0 48) ≡ refused n p → n ≡ 19
    by_length true h = over 48 0 h
    by_length false h = let number : 19 ≡ n = cc in sym number

-- a report that has room is long enough
pub room_long : (report more : List ℕ) → room_in report more ≡ good tt → report_need ≤ length report
unfolding room_in
room_long report more e = let (long, none) = simp (steps, tests) at e in long

module _ (report more : List ℕ) where
  -- what is answered, and what is left
  abbrev pub Adds : Result Unit Refused → List ℕ → Type 0
  Adds r after = (read_of r ≡ room_in report more) × (after ≡ left_of report more (room_in report more))

  -- a refusal at a layer
  no_room_at : (layer : ℕ) {r : Refused} → r ≡ record { refusal = Report; place = layer } → room_in report more ≡ refused 19 layer → Adds (Err r) report
  unfolding left_of
  no_room_at layer is e = rw (is, e) (refl, refl)

  -- the report is short
  pub room_short : length report < 48 → {r : Refused} → r ≡ record { refusal = Report; place = 8 } → Adds (Err r) report
  unfolding room_in rule ◌>>◌
  room_short h is = no_room_at 8 is (rw (lt-leb 48 (length report) h) refl)

  module _ (long : 48 ≤ length report) where
    -- a count is too large
    pub room_over : (over : ℕ) → none_over more 0 48 ≡ over_at (Some over) → {r : Refused} → r ≡ record { refusal = Report; place = over / 6 } → Adds (Err r) report
    unfolding room_in rule ◌>>◌ over_at
    room_over over told is = no_room_at (over / 6) is (rw (le-leb 48 (length report) long, told) refl)

    -- there is room
    pub room_whole : none_over more 0 48 ≡ over_at None → {after : List ℕ} → after ≡ more → Adds (Ok tt) after
    unfolding room_in rule ◌>>◌ left_of over_at
    room_whole told is =
        let e : room_in report more ≡ good tt = rw (le-leb 48 (length report) long, told) refl in
        rw (e, is) (refl, refl)
