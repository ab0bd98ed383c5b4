-- How many pins are unjoined.
--     without_shorter     a pin taken out leaves fewer
--     none_left           a list of length 0 is empty
--     some_left           one that is not empty has a length
--     begun-length        before the first join of a net no more than it has pins
--     net_few             all its pins but the first
use Prim.Native.Nat.{ℕ, suc, ◌-◌, ◌≤◌, ◌<◌}
use mathlib.Core.Path.{◌≡◌, refl, sym}
use mathlib.Core.List.{List, [], ◌∷◌}
use mathlib.Core.Bool.{Bool, true, false}
use native.Mathlib.Omega.{arith}
use lib.ListN.{length, length-map}
use lib.Dec.{eqb}
use borrow.Author.Tests.{eqb-false, ne_eqb}
use Rattle.job.specs.Lists.{any}
use Rattle.job.specs.Grid.{Grid, vertex_number}
use Rattle.job.specs.Job.{Net}
use Rattle.rules.specs.Views.{member, pins_of}
use Rattle.rules.specs.Standings.{begun, without}
use Rattle.rules.proofs.Members.{not_both}

-- a pin taken out leaves no more
without_short : (w : ℕ) (ps : List ℕ) → length (without w ps) ≤ length ps
unfolding without
without_short w [] = omega arith
without_short w (p ∷ ps) = by (eqb p w) (without_short w ps)
  where
    by : (b : Bool) → length (without w ps) ≤ length ps
        → length {A = ℕ} (elim b [ true ↦ without w ps | false ↦ p ∷ without w ps ]) ≤ suc (length ps)
    by true rest = omega arith
    by false rest = omega arith

-- a pin that is there, taken out, leaves fewer
pub without_shorter : (w : ℕ) (ps : List ℕ) → member w ps ≡ true → length (without w ps) < length ps
unfolding member any without
without_shorter w [] h = absurd (not_both h refl)
without_shorter w (p ∷ ps) h = by (eqb p w) refl (without_shorter w ps)
  where
    by : (b : Bool) → eqb p w ≡ b → (member w ps ≡ true → length (without w ps) < length ps)
        → length {A = ℕ} (elim b [ true ↦ without w ps | false ↦ p ∷ without w ps ]) < suc (length ps)
    by true e rest = omega (arith, without_short w ps)
    by false e rest = omega (arith, rest (rw (ne_eqb w p (λ same. eqb-false p w e (sym same))) at h))

-- a list of length 0 is empty
pub none_left : (ps : List ℕ) → length ps ≤ 0 → ps ≡ []
none_left [] h = refl
none_left (p ∷ ps) h = absurd (omega arith)

-- before the first join of a net all its pins but the first are unjoined
begun_few : (pins : List ℕ) (metal : List (List ℕ)) → length (begun pins metal).unjoined ≡ length pins - 1
unfolding begun
begun_few [] metal = omega arith
begun_few (first ∷ others) metal = omega arith

-- no more than it has
pub begun-length : (pins : List ℕ) (metal : List (List ℕ)) → length (begun pins metal).unjoined ≤ length pins
begun-length pins metal = omega (arith, begun_few pins metal)

-- as the job counts them
pub net_few : (g : Grid) (net : Net) (metal : List (List ℕ)) → length (begun (pins_of g net) metal).unjoined ≡ length net.pins - 1
unfolding pins_of
net_few g net metal = omega (arith, begun_few (pins_of g net) metal, length-map net.pins (vertex_number g))

-- some are left
pub some_left : (u : List ℕ) → (u ≡ [] → ⊥) → 1 ≤ length u
some_left [] h = absurd (h refl)
some_left (x ∷ xs) h = omega arith
