-- The price of entering a vertex.
--     one_penalty       of the two penalties one is added at most
--     base_fits         the wire price or the via price is from 1 to 1,023
--     entering_fits     with a penalty that is not closed, from 1 to the dearest
--     entering_both     the price at a vertex outside the guide and taken
use Prim.Native.Nat.{ℕ, zero, suc, ◌+◌, ◌≤◌, ◌<◌}
use mathlib.Core.Path.{◌≡◌, refl, ap}
use mathlib.Core.Bool.{Bool, true, false, not, ◌||◌, cond}
use native.Mathlib.Omega.{arith}
use native.Mathlib.Nat.{add-zero, zero-add}
use lib.Dec.{eqb}
use borrow.Author.Tests.{eqb-false}
use Rattle.job.specs.Grid.{vertices}
use Rattle.job.specs.Job.{closed_price}
use Rattle.paths.specs.Costs.{Cost, fin, inf, plus}
use Rattle.rules.specs.Tracks.{outside, at, entered}
use Rattle.rules.specs.Segments.{kind_of}
use Rattle.rules.specs.Views.{View}
use Rattle.rules.specs.Prices.{Tech, charge, penalty, closing, base, guide_at, short_at, sum_cost, entering}
use Rattle.rules.specs.Places.{GoodTech, dearest_entry}
use Rattle.rules.proofs.Neighbours.{low_enters, high_enters, down_enters, up_enters}
use Rattle.rules.proofs.Techs.{line_good, via_some}

-- a cost of at most 65,534, if there is one
NotClosed : Cost → Type 0
NotClosed (fin n) = n ≤ 65534
NotClosed inf = Unit

-- a penalty is none, or not the closed price
penalty_fits : (applies : Bool) (p : ℕ) → p < 65536 → NotClosed (penalty applies p)
unfolding NotClosed penalty charge
penalty_fits true p h = by (eqb p closed_price) refl
  where
    by : (b : Bool) → eqb p closed_price ≡ b → NotClosed (cond b inf (fin p))
    by true e = tt
    by false e = let ne : p ≡ 65535 → ⊥ = eqb-false _ _ e in omega arith
penalty_fits false p h = omega arith

-- of the two penalties one is added at most: the short penalty where the vertex is taken, else the guide
-- penalty, whose closed price forbids either way
pub one_penalty : (taken : Bool) (outside : Cost) (short : ℕ)
    → sum_cost (cond taken (closing outside) outside) (penalty taken short) ≡ elim outside [ fin n ↦ cond taken (charge short) (fin n) | inf ↦ inf ]
unfolding sum_cost closing penalty
one_penalty true (fin n) short = by (charge short)
  where
    by : (c : Cost) → plus 0 c ≡ c
    by (fin n) = ap fin (zero-add n)
    by inf = refl
one_penalty true inf short = refl
one_penalty false (fin n) short = ap fin (add-zero n)
one_penalty false inf short = refl

-- so what is added is not the closed price either
penalties_fit : (taken : Bool) (outside : Cost) (short : ℕ) → NotClosed outside → short < 65536
    → NotClosed (sum_cost (cond taken (closing outside) outside) (penalty taken short))
unfolding NotClosed penalty
penalties_fit true (fin n) short hx hs = rw (one_penalty true (fin n) short) (penalty_fits true short hs)
penalties_fit false (fin n) short hx hs = rw (one_penalty false (fin n) short) hx
penalties_fit taken inf short hx hs = rw (one_penalty taken inf short) tt

-- a price with a penalty: at least the price, at most so much more
with_penalty : (b : ℕ) (x : Cost) {n : ℕ} → NotClosed x → plus b x ≡ fin n → (b ≤ n) × (n ≤ b + 65534)
unfolding NotClosed
with_penalty b (fin x) {n} hx e = let sum : b + x ≡ n = cc in omega arith
with_penalty b inf {n} hx e = let z : ◌≡◌ {A = ℕ} 0 1 = cc in omega arith

-- the wire price or the via price is from 1 to 1,023
base_fits : {t : Tech} {v w : ℕ} (m : ℕ) → GoodTech t → v < vertices t.grid → entered t.grid v m ≡ at w
    → (1 ≤ base t v w m) × (base t v w m ≤ 1023)
unfolding base kind_of entered
base_fits {t} zero good h e = let line = line_good good (low_enters t.grid h e).lower in (line.some_wire, omega (arith, line.wire))
base_fits {t} (suc zero) good h e = let line = line_good good (high_enters t.grid h e).upper in (line.some_wire, omega (arith, line.wire))
base_fits {t} (suc (suc zero)) good h e =
    let up = down_enters t.grid h e in
    let line = line_good good up.lower in
    (via_some good up.lower (rw up.layer at up.room), omega (arith, line.via))
base_fits {t} (suc (suc (suc zero))) good h e =
    let up = up_enters t.grid h e in
    let line = line_good good h in
    (via_some good h (rw up.layer at up.room), omega (arith, line.via))
base_fits {t} {v} {w} (suc (suc (suc (suc m)))) good h e = absurd (nowhere e)
  where
    nowhere : outside ≡ at w → ⊥
    nowhere q = let z : ◌≡◌ {A = ℕ} 0 1 = cc in omega arith

-- the price of entering is from 1 to the dearest
pub entering_fits : {t : Tech} (view : View) {v w n : ℕ} (m : ℕ) → GoodTech t → v < vertices t.grid → entered t.grid v m ≡ at w
    → entering t view v w m ≡ fin n → (1 ≤ n) × (n ≤ dearest_entry)
unfolding entering guide_at short_at
entering_fits {t} view {v} {w} m good h e p =
    let b = base_fits m good h e in
    let outside = penalty_fits (not (view.guided w)) t.guide good.guide in
    let within = with_penalty (base t v w m) _ (penalties_fit (view.taken w) _ t.short outside good.short) p in
    omega arith

-- a vertex outside the guide and taken: closed where either penalty is, else only the short penalty is added
pub entering_both : (t : Tech) (view : View) (v w m : ℕ) → view.guided w ≡ false → view.taken w ≡ true
    → entering t view v w m ≡ cond (eqb t.guide closed_price || eqb t.short closed_price) inf (fin (base t v w m + t.short))
unfolding entering guide_at short_at penalty charge
entering_both t view v w m out taken =
    rw (out, taken, one_penalty true (penalty true t.guide) t.short) (by (eqb t.guide closed_price) (eqb t.short closed_price))
  where
    by : (guide short : Bool)
        → plus (base t v w m) (elim (cond guide inf (fin t.guide)) [ fin n ↦ cond short inf (fin t.short) | inf ↦ inf ])
        ≡ cond (guide || short) inf (fin (base t v w m + t.short))
    by true short = refl
    by false true = refl
    by false false = refl
