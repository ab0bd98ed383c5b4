-- Counting a move.
--     none_more            nothing is counted where a test fails
--     fit_under, fit_one   the counts stay small
--     way_one, one_few     a step or a via is one, and a test counts for one at most
--     move_counted         five counts, one after the other, are a move's
use Prim.Native.Nat.{ℕ, ◌+◌, ◌^◌, ◌≤◌, ◌<◌}
use mathlib.Core.Path.{◌≡◌, refl, sym, ap, ◌∙◌}
use mathlib.Core.List.{List, [], ◌∷◌}
use mathlib.Core.Bool.{Bool, true, false, not, ◌&&◌, cond}
use native.Mathlib.Omega.{arith}
use native.Mathlib.Nat.{add-zero}
use lib.ListN.{get_or, set}
use lib.Seq.{set-get_or}
use lib.Dec.{ltb}
use Rattle.job.specs.Lists.{All}
use Rattle.job.specs.Grid.{Grid, vertices}
use Rattle.rules.specs.Tracks.{layer_of}
use Rattle.rules.specs.Seen.{holds, view_by}
use Rattle.rules.specs.Segments.{Place}
use Rattle.rules.specs.Structs.{made_by}
use Rattle.rules.specs.declared.step.Made.{Made as MadeStruct}
use Rattle.rules.proofs.Held.{seen_taken, seen_outside}
use Rattle.counts.specs.Counts.{vias, steps, Count, count, counted, one_if, way_count, move_counts, added_steps, penalised, guide_entries, short_entries}
use Rattle.counts.specs.Structs.{CountsFit}
use Rattle.counts.proofs.Adding.{counted_fit}

-- none more where a test fails
pub none_more : (counts : List ℕ) (layer kind : ℕ) → counts ≡ counted (count layer kind (one_if false) ∷ []) counts
unfolding counted one_if
none_more counts layer kind =
    let at = (count layer kind 0).at in
    sym (ap (set counts at) (add-zero (get_or counts at 0)) ∙ set-get_or counts at 0)

-- numbers that are at most one are at most a greater one
pub fit_under : (n : ℕ) {m : ℕ} {counts : List ℕ} → CountsFit m counts → m ≤ n → CountsFit n counts
fit_under n fit h = record { each = λ i. omega (arith, fit.each i, h) }

-- one count more
pub fit_one : (r : List ℕ) (c : Count) {most : ℕ} {after : List ℕ} → after ≡ counted (c ∷ []) r → c.many ≤ 2 ^ 20 → CountsFit most r
    → CountsFit (most + 2 ^ 20) after
unfolding All
fit_one r c {most} is few fit = rw is (fit_under _ (counted_fit most (2 ^ 20) (c ∷ []) r (few, tt) fit) (omega arith))

-- a step or a via is one
pub way_one : (left entered : ℕ) → (way_count left entered).many ≡ 1
unfolding way_count
way_one left entered = by (ltb left entered) (ltb entered left)
  where
    by : (b c : Bool) → (cond b (count left vias 1) (cond c (count entered vias 1) (count entered steps 1))).many ≡ 1
    by true c = refl
    by false true = refl
    by false false = refl

-- a test counts for one at most
pub one_few : (b : Bool) → one_if b ≤ 2 ^ 20
unfolding one_if
one_few true = omega arith
one_few false = omega arith

-- five counts, one after the other, are a move's
pub move_counted : (g : Grid) (seen : List ℕ) (p : Place) (m : MadeStruct) (c₀ : List ℕ) {left entered : ℕ} {outside taken : Bool} {c₁ c₂ c₃ c₄ c₅ : List ℕ} → left ≡ layer_of g p.vertex
    → entered ≡ layer_of g m.next.vertex → m.next.vertex < vertices g
    → outside ≡ holds 4 (get_or seen m.next.vertex 0) → taken ≡ holds 2 (get_or seen m.next.vertex 0)
    → c₁ ≡ counted (way_count left entered ∷ []) c₀
    → c₂ ≡ counted (count left added_steps m.added ∷ []) c₁
    → c₃ ≡ counted (count left penalised m.penalties ∷ []) c₂
    → c₄ ≡ counted (count entered guide_entries (one_if (outside && not taken)) ∷ []) c₃
    → c₅ ≡ counted (count entered short_entries (one_if taken) ∷ []) c₄
    → c₅ ≡ counted (move_counts g (view_by g seen) p.vertex (made_by g (view_by g seen) p m)) c₀
unfolding counted move_counts made_by
move_counted g seen p m c₀ from into on out held way added penalties guide short =
    rw (← from, ← into, seen_outside g seen _ on, seen_taken g seen _ on, ← out, ← held, ← way, ← added, ← penalties, ← guide) short
