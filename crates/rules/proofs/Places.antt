-- Places by number.
--     segment_code_lem, segment_below    a good segment from its number, which is below 2(M + 1)
--     code_below                         a good place has a number below the number of places
--     code_apart                         two good places have two numbers
--     start_good                         a start of a join is a good place
--     places_small                       there are at most 2^19 places
use Prim.Native.Nat.{ℕ, ◌+◌, ◌-◌, ◌*◌, ◌/◌, ◌%◌, ◌^◌, ◌≤◌, ◌<◌}
use mathlib.Core.Path.{◌≡◌, refl, sym, ap, ◌∙◌}
use native.Mathlib.Nat.{mul_assoc, mul-le-mul}
use native.Mathlib.Omega.{arith}
use lib.Arith.{digits_lt, digits_div, digits_mod}
use borrow.Author.Tests.{lt-ltb, le-ltb, eq-eqb, ne_eqb}
use Rattle.job.specs.Grid.{vertices}
use Rattle.job.specs.Job.{largest_min_length}
use Rattle.rules.specs.Segments.{low, high, Segment, fresh, running, paid, paid_toward, Place}
use Rattle.rules.specs.Prices.{Tech}
use Rattle.rules.specs.Walks.{start_at}
use Rattle.rules.specs.Joins.{places}
use Rattle.rules.specs.Places.{segment_code, code_by, place_code, running_at, segment_at, GoodSegment, GoodPlace, GoodTech}
use Rattle.rules.proofs.Techs.{some_largest, largest_small}

-- ---- segments

-- a good segment is that of its number
segment_code_lem : (largest : ℕ) (s : Segment) → 1 ≤ largest → GoodSegment largest s → segment_at largest (segment_code largest s) ≡ s
unfolding segment_at running_at segment_code GoodSegment
segment_code_lem l fresh some h = refl
segment_code_lem l (running low n) some h =
    let odd : (2 * n - 1) % 2 ≡ 1 = omega arith in
    let half : (2 * n - 1 + 1) / 2 ≡ n = omega arith in
    rw (ne_eqb (2 * n - 1) 0 (omega arith), lt-ltb (2 * n - 1) (2 * l - 1) (omega arith), odd, half)
segment_code_lem l (running high n) some h =
    let even : (2 * n) % 2 ≡ 0 = omega arith in
    let half : (2 * n + 1) / 2 ≡ n = omega arith in
    rw (ne_eqb (2 * n) 0 (omega arith), lt-ltb (2 * n) (2 * l - 1) (omega arith), even, half)
segment_code_lem l paid some h =
    rw (ne_eqb (2 * l - 1) 0 (omega arith), le-ltb (2 * l - 1) (2 * l - 1) (omega arith), eq-eqb (2 * l - 1) (2 * l - 1) refl)
segment_code_lem l (paid_toward low) some h =
    rw (ne_eqb (2 * l) 0 (omega arith), le-ltb (2 * l) (2 * l - 1) (omega arith), ne_eqb (2 * l) (2 * l - 1) (omega arith), eq-eqb (2 * l) (2 * l) refl)
segment_code_lem l (paid_toward high) some h =
    rw (
      ne_eqb (2 * l + 1) 0 (omega arith),
      le-ltb (2 * l + 1) (2 * l - 1) (omega arith),
      ne_eqb (2 * l + 1) (2 * l - 1) (omega arith),
      ne_eqb (2 * l + 1) (2 * l) (omega arith),
    )

-- a good segment has a number below 2(M + 1)
pub segment_below : (largest : ℕ) (s : Segment) → GoodSegment largest s → segment_code largest s < 2 * (largest + 1)
unfolding segment_code GoodSegment
segment_below l fresh h = omega arith
segment_below l (running low n) h = omega arith
segment_below l (running high n) h = omega arith
segment_below l paid h = omega arith
segment_below l (paid_toward low) h = omega arith
segment_below l (paid_toward high) h = omega arith

-- ---- places

-- a good place has a number below the number of places
pub code_below : {t : Tech} {p : Place} → GoodPlace t p → place_code t p < places t
unfolding place_code code_by places
code_below {t} {p} h = rw mul_assoc (digits_lt h.vertex (segment_below (largest_min_length t.lines) p.segment h.segment))

-- two good places have two numbers
pub code_apart : {t : Tech} {p q : Place} → GoodTech t → GoodPlace t p → GoodPlace t q → place_code t p ≡ place_code t q → p ≡ q
unfolding place_code code_by
code_apart {t} {p} {q} good hp hq e =
    let l = largest_min_length t.lines in
    let some = some_largest good hp.vertex in
    let bp = segment_below l p.segment hp.segment in
    let bq = segment_below l q.segment hq.segment in
    let vertex : p.vertex ≡ q.vertex = sym (digits_div p.vertex bp) ∙ ap (λ (x : ℕ). x / (2 * (l + 1))) e ∙ digits_div q.vertex bq in
    let code : segment_code l p.segment ≡ segment_code l q.segment =
    sym (digits_mod p.vertex bp) ∙ ap (λ (x : ℕ). x % (2 * (l + 1))) e ∙ digits_mod q.vertex bq in
    let segment : p.segment ≡ q.segment =
    sym (segment_code_lem l p.segment some hp.segment) ∙ ap (segment_at l) code ∙ segment_code_lem l q.segment some hq.segment in
    λ i. record { vertex = vertex i; segment = segment i }

-- a start of a join is a good place
pub start_good : {t : Tech} {v : ℕ} → v < vertices t.grid → GoodPlace t (start_at v)
unfolding start_at GoodSegment
start_good h = record { vertex = h; segment = tt }

-- there are at most 2^19 places
pub places_small : {t : Tech} → GoodTech t → places t ≤ 2 ^ 19
unfolding places
places_small {t} good =
    let l : largest_min_length t.lines + 1 ≤ 16 = omega (arith, largest_small good) in
    let twice : vertices t.grid * 2 ≤ 32768 = omega (arith, good.grid.vertices) in
    mul-le-mul twice l
