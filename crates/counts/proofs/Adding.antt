-- A report with counts added.
--     counted-append               with those of two lists
--     counted-length               it stays as long
--     counted_at                   what it holds at a place
--     count_most, counted_fit      how large its numbers grow
--     Placed, count_none           every count has its place among the 48; past all places none is added
--     counted-beyond               so what lies past them is as found
--     layer_small, way_placed      a layer of a grid is below 8, and so a step or a via has its place
--     move_placed, walk-placed     the counts of a move on the grid, and of moves
--     plus-length, plus_at         two reports added: how long, and what they hold at a place
--     empty_at, plus-counted       counts added to a report are those added to an empty one, and the report
use Prim.Native.Nat.{ℕ, zero, suc, ◌+◌, ◌*◌, ◌≤◌, ◌<◌}
use mathlib.Core.Path.{◌≡◌, refl, sym, ap, ◌∙◌}
use mathlib.Core.List.{List, [], ◌∷◌, ◌++◌}
use mathlib.Core.Bool.{Bool, true, false, cond}
use native.Mathlib.Decide.{dec_lt}
use native.Mathlib.Nat.{not-suc-le-zero, le_of_suc-le-suc, add-zero}
use native.Mathlib.Omega.{arith}
use lib.ListN.{length, get_or, set, replicate, length-set, length-replicate, get_or-replicate, get_or-eq_default}
use lib.Seq.{get_or-set_same, get_or-set_other, ext_get_or}
use lib.Dec.{eqb, ltb}
use borrow.Author.Tests.{eqb-true, eqb-false, ne_eqb}
use Rattle.job.specs.Lists.{All}
use Rattle.job.specs.Grid.{Grid, vertices}
use Rattle.job.specs.Good.{GoodGrid}
use Rattle.rules.specs.Tracks.{layer_of}
use Rattle.rules.specs.Views.{View}
use Rattle.rules.specs.Steps.{Made}
use Rattle.rules.proofs.Vertices.{vertex_below}
use Rattle.rules.proofs.Laid.{all_append}
use Rattle.counts.specs.Counts.{vias, steps, report_need, Count, count, counted, way_count, move_counts, walk_counts}
use Rattle.counts.specs.Places.{count_at}
use Rattle.counts.specs.Structs.{CountsFit, plus}

-- ---- adding counts

-- those of two lists
pub counted-append : (xs ys : List Count) (r : List ℕ) → counted (xs ++ ys) r ≡ counted ys (counted xs r)
unfolding counted
counted-append [] ys r = refl
counted-append (c ∷ cs) ys r = counted-append cs ys _

-- the report stays as long
pub counted-length : (cs : List Count) (r : List ℕ) → length (counted cs r) ≡ length r
unfolding counted
counted-length [] r = refl
counted-length (c ∷ cs) r = counted-length cs _ ∙ length-set r c.at _

-- one number raised, at a place
raised_at : (r : List ℕ) (at many i : ℕ) → i < length r → get_or (set r at (get_or r at 0 + many)) i 0 ≡ get_or r i 0 + cond (eqb at i) many 0
raised_at r at many i h = by (eqb at i) refl
  where
    by : (b : Bool) → eqb at i ≡ b → get_or (set r at (get_or r at 0 + many)) i 0 ≡ get_or r i 0 + cond b many 0
    by true e = let here : at ≡ i = eqb-true at i e in rw here (get_or-set_same r i _ 0 h)
    by false e = get_or-set_other r at i _ 0 (λ same. eqb-false at i e (sym same)) ∙ sym (add-zero _)

-- what the report holds at a place
pub counted_at : (cs : List Count) (r : List ℕ) (i : ℕ) → i < length r → get_or (counted cs r) i 0 ≡ get_or r i 0 + count_at cs i
unfolding counted count_at
counted_at [] r i h = sym (add-zero _)
counted_at (c ∷ cs) r i h =
    let next = set r c.at (get_or r c.at 0 + c.many) in
    let there : i < length next = rw (length-set r c.at (get_or r c.at 0 + c.many)) h in
    omega (arith, counted_at cs next i there, raised_at r c.at c.many i h)

-- how many counts have at a place, where none has many
count_most : (more : ℕ) (cs : List Count) (i : ℕ) → All (λ c. c.many ≤ more) cs → count_at cs i ≤ length cs * more
unfolding count_at All
count_most more [] i few = omega arith
count_most more (c ∷ cs) i few = by (eqb c.at i) (count_most more cs i few.1)
  where
    by : (b : Bool) → count_at cs i ≤ length cs * more → cond b c.many 0 + count_at cs i ≤ suc (length cs) * more
    by true rest = omega (arith, rest, few.0)
    by false rest = omega (arith, rest)

-- how large its numbers grow
pub counted_fit : (most more : ℕ) (cs : List Count) (r : List ℕ) → All (λ c. c.many ≤ more) cs → CountsFit most r
    → CountsFit (most + length cs * more) (counted cs r)
counted_fit most more cs r few fit = record { each = λ i. at i (dec_lt i (length r)) }
  where
    at : (i : ℕ) → Dec (i < length r) → get_or (counted cs r) i 0 ≤ most + length cs * more
    at i (yes inside) = omega (arith, counted_at cs r i inside, fit.each i, count_most more cs i few)
    at i (no beyond) = rw (get_or-eq_default (counted cs r) 0 {n = i} (omega (arith, counted-length cs r, beyond))) (omega arith)

-- ---- places

-- every count has its place among the 48
abbrev pub Placed : List Count → Type 0
Placed cs = All (λ c. c.at < report_need) cs

-- past all places none is added
count_none : {n : ℕ} (cs : List Count) (i : ℕ) → All (λ c. c.at < n) cs → n ≤ i → count_at cs i ≡ 0
unfolding All count_at
count_none [] i h far = refl
count_none (c ∷ cs) i h far = rw (ne_eqb c.at i (λ e. omega (arith, e, h.0, far))) (omega (arith, count_none cs i h.1 far))

-- so what lies past them is as found
pub counted-beyond : (cs : List Count) (r : List ℕ) (i : ℕ) → Placed cs → report_need ≤ i → get_or (counted cs r) i 0 ≡ get_or r i 0
counted-beyond cs r i placed far = by (dec_lt i (length r))
  where
    by : Dec (i < length r) → get_or (counted cs r) i 0 ≡ get_or r i 0
    by (yes inside) = omega (arith, counted_at cs r i inside, count_none {n = report_need} cs i placed far)
    by (no beyond) =
        get_or-eq_default (counted cs r) 0 {n = i} (omega (arith, counted-length cs r, beyond))
        ∙ sym (get_or-eq_default r 0 {n = i} (omega (arith, beyond)))

-- a layer of a grid is below 8
layer_small : {g : Grid} {v : ℕ} → GoodGrid g → v < vertices g → layer_of g v < 8
layer_small {g} good h = omega (arith, (vertex_below g h).layer, good.layers)

-- a step or a via has its place
way_placed : (left entered : ℕ) → left < 8 → entered < 8 → (way_count left entered).at < report_need
unfolding way_count
way_placed left entered hl he = by (ltb left entered) (ltb entered left)
  where
    by : (b c : Bool) → (cond b (count left vias 1) (cond c (count entered vias 1) (count entered steps 1))).at < report_need
    by true c = omega arith
    by false true = omega arith
    by false false = omega arith

-- the counts of a move on the grid
pub move_placed : {g : Grid} (view : View) {v : ℕ} (made : Made) → GoodGrid g → v < vertices g → made.next.vertex < vertices g
    → Placed (move_counts g view v made)
unfolding move_counts All
move_placed view made good hv hw =
    let left = layer_small good hv in
    let entered = layer_small good hw in
    (way_placed _ _ left entered, (omega arith, (omega arith, (omega arith, (omega arith, tt)))))

-- and of moves
pub walk-placed : {g : Grid} (view : View) {v : ℕ} (made : List Made) → GoodGrid g → v < vertices g
    → All (λ m. m.next.vertex < vertices g) made → Placed (walk_counts g view v made)
unfolding walk_counts All
walk-placed view [] good hv hs = tt
walk-placed view (m ∷ ms) good hv hs =
    all_append (λ (c : Count). c.at < report_need) (move_counts _ view _ m) _ (move_placed view m good hv hs.0) (walk-placed view ms good hs.0 hs.1)

-- ---- two reports

-- two reports added are as long as the first
pub plus-length : (r c : List ℕ) → length (plus r c) ≡ length r
unfolding plus
plus-length [] c = refl
plus-length (r ∷ rs) [] = refl
plus-length (r ∷ rs) (c ∷ cs) = ap suc (plus-length rs cs)

-- and hold the sum at a place
pub plus_at : (r c : List ℕ) (i : ℕ) → i < length r → get_or (plus r c) i 0 ≡ get_or r i 0 + get_or c i 0
unfolding plus
plus_at [] c i h = absurd (not-suc-le-zero h)
plus_at (r ∷ rs) [] i h = sym (add-zero _)
plus_at (r ∷ rs) (c ∷ cs) zero h = refl
plus_at (r ∷ rs) (c ∷ cs) (suc i) h = plus_at rs cs i (le_of_suc-le-suc h)

-- what counts make of an empty report
empty_at : (n : ℕ) (cs : List Count) (i : ℕ) → All (λ c. c.at < n) cs → get_or (counted cs (replicate n 0)) i 0 ≡ count_at cs i
empty_at n cs i h = by (dec_lt i n)
  where
    by : Dec (i < n) → get_or (counted cs (replicate n 0)) i 0 ≡ count_at cs i
    by (yes inside) =
        let empty : List ℕ = replicate n 0 in
        omega (arith, counted_at cs empty i (rw (length-replicate {A = ℕ} n 0) inside), get_or-replicate {A = ℕ} n i 0 0 inside)
    by (no beyond) =
        let empty : List ℕ = replicate n 0 in
        let short : length (counted cs empty) ≤ i = omega (arith, counted-length cs empty, length-replicate {A = ℕ} n 0, beyond) in
        get_or-eq_default (counted cs empty) 0 {n = i} short ∙ sym (count_none cs i h (omega (arith, beyond)))

-- counts added to a report are those added to an empty one, and the report
pub plus-counted : (cs : List Count) (r : List ℕ) → Placed cs → report_need ≤ length r → counted cs r ≡ plus r (counted cs (replicate report_need 0))
plus-counted cs r h long = added report_need h
  where
    added : (n : ℕ) → All (λ c. c.at < n) cs → counted cs r ≡ plus r (counted cs (replicate n 0))
    added n placed =
        ext_get_or 0 (counted cs r) (plus r (counted cs (replicate n 0)))
        (counted-length cs r ∙ sym (plus-length r _))
        (λ i h.
        let there : i < length r = rw (counted-length cs r) at h in
        omega (arith, counted_at cs r i there, plus_at r (counted cs (replicate n 0)) i there, empty_at n cs i placed))
