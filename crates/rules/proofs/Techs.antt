-- What a good job says of its layers.
--     good_tech                      the layers of a good job are good
--     least_largest                  a vertex's M is at most the largest
--     some_largest, largest_small    the largest M is from 1 to 15
--     line_good, via_some            the layer line of a vertex is good, and its via price is at least 1
--                                    below the top layer
use Prim.Native.Nat.{ℕ, zero, suc, ◌-◌, ◌≤◌, ◌<◌, zero-le}
use mathlib.Core.Path.{◌≡◌, refl, sym, subst}
use mathlib.Core.List.{List, [], ◌∷◌}
use native.Mathlib.Nat.{le_trans, le-max_left, le-max_right, max-le, not-suc-le-zero, suc-sub-suc, le_of_suc-le-suc}
use native.Mathlib.Omega.{arith}
use lib.ListN.{length, get_or}
use lib.Dec.{leb→le}
use borrow.Author.Tests.{ne_eqb}
use Rattle.job.specs.Grid.{vertices}
use Rattle.job.specs.Job.{Layer, Job, largest_min_length}
use Rattle.job.specs.Reading.{via_rule}
use Rattle.job.specs.Good.{GoodLayer, GoodLines, GoodJob}
use Rattle.rules.specs.Tracks.{layer_of}
use Rattle.rules.specs.Prices.{Tech, tech_of, line_of}
use Rattle.rules.specs.Places.{GoodTech}
use Rattle.rules.proofs.Vertices.{vertex_below}

-- the layers of a good job are good
pub good_tech : {j : Job} → GoodJob j → GoodTech (tech_of j)
unfolding tech_of
good_tech h = record { grid = h.grid; guide = h.guide; short = h.short; lines = h.lines; good_lines = h.good_lines }

-- ---- the largest M

-- a line's M is at most the largest
at_most_largest : (ls : List Layer) (k : ℕ) (d : Layer) → d.min_length ≡ 0 → (get_or ls k d).min_length ≤ largest_min_length ls
unfolding largest_min_length
at_most_largest [] k d e = omega arith
at_most_largest (l ∷ ls) zero d e = le-max_left _ _
at_most_largest (l ∷ ls) (suc k) d e = le_trans (at_most_largest ls k d e) (le-max_right _ _)

-- a vertex's M is at most the largest
pub least_largest : (t : Tech) (v : ℕ) → (line_of t v).min_length ≤ largest_min_length t.lines
unfolding line_of
least_largest t v = at_most_largest t.lines (layer_of t.grid v) (record { wire = 0; via = 0; min_length = 0; area = 0 }) refl

-- the largest M of good lines is at most 15
lines_small : (ls : List Layer) → GoodLines ls → largest_min_length ls ≤ 15
unfolding largest_min_length GoodLines
lines_small [] h = zero-le
lines_small (l ∷ ls) h = max-le (omega (arith, h.0.min_length)) (lines_small ls h.1)

-- of a good job too
pub largest_small : {t : Tech} → GoodTech t → largest_min_length t.lines ≤ 15
largest_small h = lines_small _ h.good_lines

-- ---- the layer line of a vertex

-- each of good lines is good
good_at : (ls : List Layer) (k : ℕ) (d : Layer) → GoodLines ls → k < length ls → GoodLayer (length ls - suc k) (get_or ls k d)
unfolding GoodLines
good_at [] k d h b = absurd (not-suc-le-zero b)
good_at (l ∷ ls) zero d h b = let e : length ls ≡ suc (length ls) - 1 = omega arith in subst (λ (n : ℕ). GoodLayer n l) e h.0
good_at (l ∷ ls) (suc k) d h b =
    subst (λ (n : ℕ). GoodLayer n (get_or ls k d)) (sym (suc-sub-suc (length ls) (suc k))) (good_at ls k d h.1 (le_of_suc-le-suc b))

-- the layer line of a vertex is good
pub line_good : {t : Tech} {v : ℕ} → GoodTech t → v < vertices t.grid → GoodLayer (t.grid.layers - suc (layer_of t.grid v)) (line_of t v)
unfolding line_of
line_good {t} {v} h b =
    let layer = layer_of t.grid v in
    let on : layer < length t.lines = rw h.lines (vertex_below t.grid b).layer in
    subst (λ (n : ℕ). GoodLayer (n - suc layer) (line_of t v)) h.lines (good_at t.lines layer _ h.good_lines on)

-- and its M is at least 1, so the largest is
pub some_largest : {t : Tech} {v : ℕ} → GoodTech t → v < vertices t.grid → 1 ≤ largest_min_length t.lines
some_largest {t} {v} h b = le_trans (line_good h b).some_length (least_largest t v)

-- below the top layer a via price is at least 1
pub via_some : {t : Tech} {v : ℕ} → GoodTech t → v < vertices t.grid → suc (layer_of t.grid v) < t.grid.layers → 1 ≤ (line_of t v).via
unfolding via_rule
via_some {t} {v} h b on =
    let after = t.grid.layers - suc (layer_of t.grid v) in
    let some : after ≡ 0 → ⊥ = omega arith in
    leb→le _ _ (rw (ne_eqb after 0 some) at (line_good h b).via_rule)
