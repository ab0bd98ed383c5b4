-- A legal move leads from a good place to another, at a price from 1 to the dearest.
--     Went, step_parts     the vertex that a legal move enters, the price of entering it, and what the
--                          segment makes of it
--     step_keeps           the next place is good
--     step-costs           a move costs at least 1
--     step_limits          no move costs more than the dearest
--     step_penalties       it penalises at most one segment
use Prim.Native.Nat.{ℕ, ◌≤◌}
use mathlib.Core.Path.{◌≡◌, refl}
use mathlib.Core.Bool.{Bool, true, false}
use native.Mathlib.Omega.{arith}
use Rattle.paths.specs.Systems.{to}
use Rattle.paths.specs.Costs.{Cost, fin, inf}
use Rattle.rules.specs.Tracks.{Entered, outside, at, entered}
use Rattle.rules.specs.Views.{View}
use Rattle.rules.specs.Segments.{Kind, along, down, up, kind_of, Place, Grown, back, grown}
use Rattle.rules.specs.Prices.{Tech, entering}
use Rattle.rules.specs.Overheads.{overhead_of}
use Rattle.rules.specs.Steps.{Made, Stepped, illegal, legal, leaving, stepping, by_segment, if_priced, into, step, priced}
use Rattle.rules.specs.Places.{GoodPlace, GoodTech, dearest_move}
use Rattle.rules.proofs.Neighbours.{entered_below}
use Rattle.rules.proofs.Overheads.{overhead_holds}
use Rattle.rules.proofs.Segments.{no_step, move_led}
use Rattle.rules.proofs.Prices.{entering_fits}

-- ---- a legal move taken apart

-- what a legal move from p to q enters and pays, and what it does to the segment, at the cost c in all
pub record Went (t : Tech) (view : View) (p : Place) (m c : ℕ) (q : Place) : Type 0 where
  pub vertex : ℕ
  pub enter : ℕ
  pub enters : entered t.grid p.vertex m ≡ at vertex
  pub free : view.blocked vertex ≡ false
  pub pays : entering t view p.vertex vertex m ≡ fin enter
  pub does : priced (by_segment t view p (kind_of m) vertex enter) ≡ to c q

-- a legal move enters a vertex that is not blocked, at a price of entering that is not closed
pub step_parts : (t : Tech) (view : View) (p : Place) (m : ℕ) {c : ℕ} {q : Place} → priced (step t view p m) ≡ to c q → Went t view p m c q
unfolding step into if_priced priced
step_parts t view p m {c} {q} e = by (entered t.grid p.vertex m) refl e
  where
    by_price : (w : ℕ) → entered t.grid p.vertex m ≡ at w → view.blocked w ≡ false → (x : Cost) → entering t view p.vertex w m ≡ x
        → priced (if_priced x (by_segment t view p (kind_of m) w)) ≡ to c q → Went t view p m c q
    by_price w ew ef inf ex ep = absurd (no_step ep)
    by_price w ew ef (fin n) ex ep = record { vertex = w; enter = n; enters = ew; free = ef; pays = ex; does = ep }

    by_blocked : (w : ℕ) → entered t.grid p.vertex m ≡ at w → (b : Bool) → view.blocked w ≡ b
        → priced (elim b [ true ↦ illegal | false ↦ if_priced (entering t view p.vertex w m) (by_segment t view p (kind_of m) w) ]) ≡ to c q
        → Went t view p m c q
    by_blocked w ew true eb ep = absurd (no_step ep)
    by_blocked w ew false eb ep = by_price w ew eb (entering t view p.vertex w m) refl ep

    by : (r : Entered) → entered t.grid p.vertex m ≡ r → priced (into t view p m r) ≡ to c q → Went t view p m c q
    by outside ew ep = absurd (no_step ep)
    by (at w) ew ep = by_blocked w ew (view.blocked w) refl ep

-- ---- a legal move

-- the next place is good
pub step_keeps : {t : Tech} (view : View) (p : Place) (m : ℕ) {c : ℕ} {q : Place} → GoodTech t → GoodPlace t p → priced (step t view p m) ≡ to c q
    → GoodPlace t q
step_keeps {t} view p m good h e =
    let went = step_parts t view p m e in
    let l = move_led view p (kind_of m) went.vertex went.enter good h.vertex went.does in
    record { vertex = rw l.vertex (entered_below t.grid m h.vertex went.enters); segment = l.segment }

-- a move costs from 1 to the dearest
step_fits : {t : Tech} (view : View) (p : Place) (m : ℕ) {c : ℕ} {q : Place} → GoodTech t → GoodPlace t p → priced (step t view p m) ≡ to c q
    → (1 ≤ c) × (c ≤ dearest_move)
step_fits {t} view p m good h e =
    let went = step_parts t view p m e in
    let l = move_led view p (kind_of m) went.vertex went.enter good h.vertex went.does in
    let enter = entering_fits view m good h.vertex went.enters went.pays in
    omega (arith, l.cost, l.small)

-- a move costs at least 1
pub step-costs : {t : Tech} (view : View) (p : Place) (m : ℕ) {c : ℕ} {q : Place} → GoodTech t → GoodPlace t p → priced (step t view p m) ≡ to c q
    → 1 ≤ c
step-costs view p m good h e = (step_fits view p m good h e).0

-- and no more than the dearest
pub step_limits : {t : Tech} (view : View) (p : Place) (m : ℕ) {c : ℕ} {q : Place} → GoodTech t → GoodPlace t p → priced (step t view p m) ≡ to c q
    → c ≤ dearest_move
step_limits view p m good h e = (step_fits view p m good h e).1

-- at most one segment is penalised
Few : Stepped → Type 0
Few illegal = Unit
Few (legal made) = made.penalties ≤ 1

-- by a via move
leaving_few : (t : Tech) (view : View) (p : Place) (w enter : ℕ) → Few (leaving w enter (overhead_of t view p.vertex p.segment))
unfolding Few leaving
leaving_few t view p w enter =
    overhead_holds t view p.vertex (λ o. Few (leaving w enter o)) (omega arith) tt (λ _. omega arith) (λ _ _ _ _. omega arith) p.segment

-- by a step along the track
stepping_few : (w enter : ℕ) (r : Grown) → Few (stepping w enter r)
unfolding Few stepping
stepping_few w enter back = tt
stepping_few w enter (grown s) = omega arith

-- by any move
stepped_few : (t : Tech) (view : View) (p : Place) (m : ℕ) → Few (step t view p m)
unfolding step into if_priced by_segment Few
stepped_few t view p m = by (entered t.grid p.vertex m)
  where
    by_segments : (k : Kind) (w n : ℕ) → Few (by_segment t view p k w n)
    by_segments (along d) w n = stepping_few w n _
    by_segments down w n = leaving_few t view p w n
    by_segments up w n = leaving_few t view p w n

    by_price : (w : ℕ) (x : Cost) → Few (if_priced x (by_segment t view p (kind_of m) w))
    by_price w inf = tt
    by_price w (fin n) = by_segments (kind_of m) w n

    by_blocked : (w : ℕ) (b : Bool)
        → Few (elim b [ true ↦ illegal | false ↦ if_priced (entering t view p.vertex w m) (by_segment t view p (kind_of m) w) ])
    by_blocked w true = tt
    by_blocked w false = by_price w (entering t view p.vertex w m)

    by : (r : Entered) → Few (into t view p m r)
    by outside = tt
    by (at w) = by_blocked w (view.blocked w)

-- by a legal move
pub step_penalties : (t : Tech) (view : View) (p : Place) (m : ℕ) {made : Made} → step t view p m ≡ legal made → made.penalties ≤ 1
unfolding Few
step_penalties t view p m e = rw e at (stepped_few t view p m)
