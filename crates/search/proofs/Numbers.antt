-- Places by number and back.
--     running_code, toward_code                         a segment's number by its direction
--     toward_small, running_good, vertex_fits           the numbers fit a word
--     at_fresh, at_running, at_paid, at_low, at_high    the segment of a number, by the number
--     numbered                                          a number below 2(M + 1) is that of its segment, which
--                                                       is good
--     place_good, code_place                            a number of a place is that of its place, which is
--                                                       good
use Prim.Native.Nat.{ℕ, ◌+◌, ◌-◌, ◌*◌, ◌/◌, ◌%◌, ◌≤◌, ◌<◌}
use mathlib.Core.Path.{◌≡◌, refl, ap, ◌∙◌}
use mathlib.Core.Bool.{Bool, true, false, cond}
use native.Mathlib.Nat.{mul_assoc, mul-le-mul, mod-lt, div-add-mod', div-lt_iff_lt-mul}
use native.Mathlib.Omega.{arith}
use lib.Dec.{eqb, ltb}
use borrow.Author.Tests.{lt-ltb, le-ltb, eq-eqb, ne_eqb, eqb-true, eqb-false, ltb-true, ltb-false}
use Rattle.job.specs.Grid.{vertices}
use Rattle.job.specs.Job.{largest_min_length}
use Rattle.rules.specs.Segments.{Direction, low, high, Segment, fresh, running, paid, paid_toward}
use Rattle.rules.specs.Overheads.{toward}
use Rattle.rules.specs.Prices.{Tech}
use Rattle.rules.specs.Joins.{places}
use Rattle.rules.specs.Places.{segment_code, code_by, place_code, running_at, segment_at, place_at, GoodSegment, GoodPlace, GoodTech}
use Rattle.rules.specs.Structs.{direction_of, segment_of}
use Rattle.rules.specs.declared.segment.Direction.{Direction as DirectionEnum}
use Rattle.rules.specs.declared.segment.Segment.{Segment as SegmentEnum}
use Rattle.rules.specs.declared.segment.Segment.TheVariants.{Running}
use Rattle.rules.proofs.Techs.{some_largest}

-- ---- a segment's number

-- running: 2n - 1 low, 2n high
pub running_code : (largest n : ℕ) (d : Direction) → 1 ≤ n → 2 * n - 1 + toward d ≡ segment_code largest (running d n)
unfolding toward segment_code
running_code l n low h = omega arith
running_code l n high h = omega arith

-- paid toward: 2M low, 2M + 1 high
pub toward_code : (largest : ℕ) (d : Direction) → 2 * largest + toward d ≡ segment_code largest (paid_toward d)
unfolding toward segment_code
toward_code l low = omega arith
toward_code l high = refl

-- a direction's number is 0 or 1
toward_below : (d : Direction) → toward d < 2
unfolding toward
toward_below low = omega arith
toward_below high = omega arith

-- and so is that of one that the code holds
pub toward_small : (d : DirectionEnum) {r : ℕ} → r ≡ toward (direction_of d) → r < 2
toward_small d e = omega (arith, e, toward_below (direction_of d))

-- the length of a good segment that runs
pub running_good : {largest : ℕ} {s : SegmentEnum} {d : DirectionEnum} {n : ℕ} → s ≡ Running d n → GoodSegment largest (segment_of s)
    → (1 ≤ n) × (n < largest)
unfolding segment_of GoodSegment
running_good e h = rw e at h

-- a vertex's first number fits a word
pub vertex_fits : {v largest : ℕ} → v < 16384 → largest ≤ 15 → v * (2 * (largest + 1)) ≤ 524288
vertex_fits {v} {largest} hv hl =
    let wide : 2 * (largest + 1) ≤ 32 = omega arith in
    let below : v ≤ 16384 = omega arith in
    mul-le-mul below wide

-- ---- the segment of a number

module _ (largest : ℕ) (c : ℕ) where
  -- 0
  pub at_fresh : c ≡ 0 → segment_at largest c ≡ fresh
  unfolding segment_at
  at_fresh e = rw (eq-eqb c 0 e) refl

  module _ (some : c ≡ 0 → ⊥) where
    -- below 2M - 1
    pub at_running : c < 2 * largest - 1 → segment_at largest c ≡ running_at c
    unfolding segment_at
    at_running h = rw (ne_eqb c 0 some, lt-ltb c (2 * largest - 1) h) refl

    module _ (h : 2 * largest - 1 ≤ c) where
      -- 2M - 1
      pub at_paid : c ≡ 2 * largest - 1 → segment_at largest c ≡ paid
      unfolding segment_at
      at_paid e = rw (ne_eqb c 0 some, le-ltb c (2 * largest - 1) h, eq-eqb c (2 * largest - 1) e) refl

      module _ (past : c ≡ 2 * largest - 1 → ⊥) where
        -- 2M
        pub at_low : c ≡ 2 * largest → segment_at largest c ≡ paid_toward low
        unfolding segment_at
        at_low e = rw (ne_eqb c 0 some, le-ltb c (2 * largest - 1) h, ne_eqb c (2 * largest - 1) past, eq-eqb c (2 * largest) e) refl

        -- beyond
        pub at_high : (c ≡ 2 * largest → ⊥) → segment_at largest c ≡ paid_toward high
        unfolding segment_at
        at_high e = rw (ne_eqb c 0 some, le-ltb c (2 * largest - 1) h, ne_eqb c (2 * largest - 1) past, ne_eqb c (2 * largest) e) refl

-- what a number says of its segment
record Numbered (largest c : ℕ) (s : Segment) : Type 0 where
  good : GoodSegment largest s
  code : segment_code largest s ≡ c

-- a running one
running_numbered : (largest c : ℕ) → (c ≡ 0 → ⊥) → c < 2 * largest - 1 → Numbered largest c (running_at c)
unfolding running_at GoodSegment segment_code
running_numbered l c some h = by (eqb (c % 2) 0) refl
  where
    by : (b : Bool) → eqb (c % 2) 0 ≡ b → Numbered l c (running (cond b high low) ((c + 1) / 2))
    by true e = let even = eqb-true (c % 2) 0 e in record { good = (omega arith, omega arith); code = omega arith }
    by false e = let odd = eqb-false (c % 2) 0 e in record { good = (omega arith, omega arith); code = omega arith }

-- every number below 2(M + 1) is that of its segment, which is good
numbered : (largest c : ℕ) → 1 ≤ largest → c < 2 * (largest + 1) → Numbered largest c (segment_at largest c)
unfolding GoodSegment segment_code
numbered l c one h = first (eqb c 0) refl
  where
    fourth : (b : Bool) → eqb c (2 * l) ≡ b → (c ≡ 0 → ⊥) → 2 * l - 1 ≤ c → (c ≡ 2 * l - 1 → ⊥) → Numbered l c (segment_at l c)
    fourth true e some from past = let is = eqb-true c (2 * l) e in rw (at_low l c some from past is) (record { good = tt; code = omega arith })
    fourth false e some from past =
        let is = eqb-false c (2 * l) e in
        rw (at_high l c some from past is) (record { good = tt; code = omega arith })

    third : (b : Bool) → eqb c (2 * l - 1) ≡ b → (c ≡ 0 → ⊥) → 2 * l - 1 ≤ c → Numbered l c (segment_at l c)
    third true e some from = let is = eqb-true c (2 * l - 1) e in rw (at_paid l c some from is) (record { good = tt; code = omega arith })
    third false e some from = fourth (eqb c (2 * l)) refl some from (eqb-false c (2 * l - 1) e)

    second : (b : Bool) → ltb c (2 * l - 1) ≡ b → (c ≡ 0 → ⊥) → Numbered l c (segment_at l c)
    second true e some = let is = ltb-true c (2 * l - 1) e in rw (at_running l c some is) (running_numbered l c some is)
    second false e some = third (eqb c (2 * l - 1)) refl some (ltb-false c (2 * l - 1) e)

    first : (b : Bool) → eqb c 0 ≡ b → Numbered l c (segment_at l c)
    first true e = let is = eqb-true c 0 e in rw (at_fresh l c is) (record { good = tt; code = omega arith })
    first false e = second (ltb c (2 * l - 1)) refl (eqb-false c 0 e)

-- ---- the place of a number

module _ {t : Tech} (good : GoodTech t) where
  -- how many numbers a vertex has
  abbrev width : ℕ
  width = 2 * (largest_min_length t.lines + 1)

  module _ {c : ℕ} (h : c < places t) where
    -- a number below the number of places is of a vertex
    vertex_here : c / width < vertices t.grid
    unfolding places
    vertex_here = let some : 0 < width = omega arith in (div-lt_iff_lt-mul some).1 (rw mul_assoc at h)

    -- and of a good segment
    segment_here : Numbered (largest_min_length t.lines) (c % width) (segment_at (largest_min_length t.lines) (c % width))
    segment_here = numbered (largest_min_length t.lines) (c % width) (some_largest good vertex_here) (mod-lt c (omega arith))

    -- its place is good
    pub place_good : GoodPlace t (place_at (largest_min_length t.lines) c)
    unfolding place_at
    place_good = record { vertex = vertex_here; segment = segment_here.good }

    -- and has that number
    pub code_place : place_code t (place_at (largest_min_length t.lines) c) ≡ c
    unfolding place_code code_by place_at
    code_place = ap (λ (x : ℕ). c / width * width + x) segment_here.code ∙ div-add-mod' c width
