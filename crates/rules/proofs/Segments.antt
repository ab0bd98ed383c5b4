-- The segment that a move makes, and the overhead that it owes.
--     no_step       a blocked move leads nowhere
--     grow_good     a step makes a good segment
--     Led           the next place, and an overhead of at most 65,534
--     move_led      what any legal move makes of the segment
--     owed_fits     what a via owes is at most 65,534
use Prim.Native.Nat.{ℕ, suc, ◌+◌, ◌≤◌, ◌<◌}
use mathlib.Core.Path.{◌≡◌, refl, sym, ap, subst}
use mathlib.Core.Bool.{Bool, true, false, cond}
use native.Mathlib.Nat.{mul-le-mul, le_trans}
use native.Mathlib.Omega.{arith}
use lib.Dec.{leb}
use borrow.Author.Tests.{leb-false}
use Rattle.job.specs.Grid.{vertices}
use Rattle.job.specs.Job.{largest_min_length}
use Rattle.paths.specs.Systems.{blocked, to}
use Rattle.paths.specs.Costs.{fin}
use Rattle.paths.proofs.Costs.{inf_not_fin}
use Rattle.paths.proofs.OnBest.{same_fin}
use Rattle.rules.specs.Views.{View}
use Rattle.rules.specs.Segments.{Direction, Segment, fresh, running, paid, paid_toward, Place}
use Rattle.rules.specs.Segments.{Kind, along, down, up, against, of_length, Grown, back, grown, not_against, grow}
use Rattle.rules.specs.Prices.{Tech, line_of}
use Rattle.rules.specs.Overheads.{Overhead, forbidden, owes, overhead_of}
use Rattle.rules.specs.Structs.{overhead_price, owed_cost}
use Rattle.rules.specs.Steps.{leaving, stepping, by_segment, priced}
use Rattle.rules.specs.Places.{GoodSegment, GoodTech}
use Rattle.rules.proofs.Techs.{least_largest, line_good}
use Rattle.rules.proofs.Overheads.{overhead_holds}

-- a blocked move leads nowhere
pub no_step : {c : ℕ} {q : Place} → blocked ≡ to c q → ⊥
no_step e = let z : ◌≡◌ {A = ℕ} 0 1 = cc in omega arith

-- what a move makes of the segment: the next place, and an overhead that is not closed
pub record Led (t : Tech) (w enter c : ℕ) (q : Place) : Type 0 where
  pub vertex : q.vertex ≡ w
  pub segment : GoodSegment (largest_min_length t.lines) q.segment
  pub over : ℕ
  pub cost : c ≡ enter + over
  pub small : over ≤ 65534

-- a length from 1 on makes a good segment
length_good : (largest least : ℕ) (d : Direction) (n : ℕ) → least ≤ largest → 1 ≤ n → GoodSegment largest (of_length least d n)
unfolding of_length GoodSegment
length_good largest least d n h some = by (leb least n) refl
  where
    by : (b : Bool) → leb least n ≡ b → GoodSegment largest (cond b (paid_toward d) (running d n))
    by true e = tt
    by false e = (some, omega (arith, leb-false least n e))

-- a step that goes back makes no segment
no_growth : {s : Segment} → back ≡ grown s → ⊥
no_growth e = let z : ◌≡◌ {A = ℕ} 0 1 = cc in omega arith

-- the segment that a step makes
same_good : (largest : ℕ) (s : Segment) {s' : Segment} → GoodSegment largest s → grown s ≡ grown s' → GoodSegment largest s'
same_good largest s h e = subst (GoodSegment largest) (cc) h

-- a segment that goes on along its direction
along_good : (largest : ℕ) (was now : Direction) (s : Segment) {s' : Segment} → GoodSegment largest s → not_against was now s ≡ grown s'
    → GoodSegment largest s'
unfolding not_against
along_good largest was now s {s'} h e = by (against was now) e
  where
    by : (b : Bool) → cond b back (grown s) ≡ grown s' → GoodSegment largest s'
    by true e = absurd (no_growth e)
    by false e = same_good largest s h e

-- a step makes a good segment
grow_good : (largest least : ℕ) (d : Direction) (s : Segment) {s' : Segment} → least ≤ largest → grow least d s ≡ grown s' → GoodSegment largest s'
unfolding grow GoodSegment
grow_good largest least d fresh h e = same_good largest (of_length least d 1) (length_good largest least d 1 h (omega arith)) e
grow_good largest least d (running was n) h e =
    along_good largest was d (of_length least d (suc n)) (length_good largest least d (suc n) h (omega arith)) e
grow_good largest least d paid h e = same_good largest (paid_toward d) tt e
grow_good largest least d (paid_toward was) h e = along_good largest was d (paid_toward d) tt e

-- an overhead that is not forbidden has a small price
OverFits : Overhead → Type 0
OverFits forbidden = Unit
OverFits (owes price laid added penalties) = price ≤ 65534

-- what a via move owes for a segment
overhead_fits : {t : Tech} (view : View) (p : Place) → GoodTech t → p.vertex < vertices t.grid → OverFits (overhead_of t view p.vertex p.segment)
unfolding OverFits
overhead_fits {t} view p good h =
    let line = line_good good h in
    overhead_holds t view p.vertex OverFits (omega arith) tt (λ ne. omega (arith, ne, line.area))
    (λ d n missing few.
    let wire : (line_of t p.vertex).wire ≤ 1023 = omega (arith, line.wire) in
    let least : missing ≤ 15 = omega (arith, few, line.min_length) in
    le_trans (mul-le-mul wire least) (omega arith)) p.segment

-- a move to a vertex and a good segment, with an overhead
led : (t : Tech) (w enter over : ℕ) (s : Segment) {c : ℕ} {q : Place} → GoodSegment (largest_min_length t.lines) s → over ≤ 65534
    → to (enter + over) (record { vertex = w; segment = s }) ≡ to c q → Led t w enter c q
led t w enter over s {c} {q} h small e =
    let place : record { vertex = w; segment = s } ≡ q = cc in
    record {
      vertex = ap (λ (x : Place). x.vertex) (sym place);
      segment = subst (λ (x : Place). GoodSegment (largest_min_length t.lines) x.segment) place h;
      over = over;
      cost = cc;
      small = small;
    }

-- a step
stepping_led : (t : Tech) (w enter least : ℕ) (d : Direction) (s : Segment) {c : ℕ} {q : Place} → least ≤ largest_min_length t.lines
    → priced (stepping w enter (grow least d s)) ≡ to c q → Led t w enter c q
unfolding stepping priced
stepping_led t w enter least d s {c} {q} h e = by (grow least d s) refl e
  where
    by : (r : Grown) → grow least d s ≡ r → priced (stepping w enter r) ≡ to c q → Led t w enter c q
    by back er ep = absurd (no_step ep)
    by (grown s') er ep = led t w enter 0 s' (grow_good _ least d s h er) (omega arith) ep

-- a via move
leaving_led : (t : Tech) (w enter : ℕ) (o : Overhead) {c : ℕ} {q : Place} → OverFits o → priced (leaving w enter o) ≡ to c q → Led t w enter c q
unfolding leaving priced OverFits GoodSegment
leaving_led t w enter forbidden f e = absurd (no_step e)
leaving_led t w enter (owes price laid added penalties) f e = led t w enter _ fresh tt f e

-- a via move out of a good place
via_led : {t : Tech} (view : View) (p : Place) (w enter : ℕ) {c : ℕ} {q : Place} → GoodTech t → p.vertex < vertices t.grid
    → priced (leaving w enter (overhead_of t view p.vertex p.segment)) ≡ to c q → Led t w enter c q
via_led {t} view p w enter good h e = leaving_led t w enter (overhead_of t view p.vertex p.segment) (overhead_fits view p good h) e

-- any move
pub move_led : {t : Tech} (view : View) (p : Place) (k : Kind) (w enter : ℕ) {c : ℕ} {q : Place} → GoodTech t → p.vertex < vertices t.grid
    → priced (by_segment t view p k w enter) ≡ to c q → Led t w enter c q
unfolding by_segment
move_led {t} view p (along d) w enter good h e = stepping_led t w enter _ d p.segment (least_largest t p.vertex) e
move_led {t} view p down w enter good h e = via_led view p w enter good h e
move_led {t} view p up w enter good h e = via_led view p w enter good h e

-- what a via owes, where it is not forbidden
pub owed_fits : {t : Tech} (view : View) (p : Place) {n : ℕ} → GoodTech t → p.vertex < vertices t.grid → owed_cost t view p ≡ fin n → n ≤ 65534
unfolding owed_cost overhead_price OverFits
owed_fits {t} view p {n} good h e = by (overhead_of t view p.vertex p.segment) (overhead_fits view p good h) e
  where
    by : (o : Overhead) → OverFits o → overhead_price o ≡ fin n → n ≤ 65534
    by forbidden f is = absurd (inf_not_fin is)
    by (owes price laid added penalties) f is = omega (arith, same_fin refl is, f)
