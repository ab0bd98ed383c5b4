-- A table of costs given as numbers, and a test that shows it to be a table of least costs.
--     table_cost        the cost that the table has at a place
--     place_test        what a table must satisfy at one place
--     certified         the test at every good place
--     certificate       a table that passes is a `Table`, and so has the least costs
--     certified_join    the cheapest join is the join by a table that passes
use Prim.Native.Nat.{ℕ, zero, suc, ◌-◌, ◌<◌}
use mathlib.Core.Logic.{◌⊎◌, inl, inr}
use mathlib.Core.Path.{◌≡◌}
use mathlib.Core.List.{List, []}
use mathlib.Core.Bool.{Bool, true, false, ◌&&◌, ◌||◌}
use native.Mathlib.Omega.{arith}
use native.Mathlib.Decide.{ℕ_discrete}
use lib.ListN.{get_or}
use lib.Dec.{T, leb, leb→le, eqb→eq}
use Rattle.job.specs.Grid.{vertices}
use Rattle.job.specs.Job.{largest_min_length}
use Rattle.job.proofs.Tests.{and_holds}
use Rattle.paths.specs.Distances.{through, is_cost}
use Rattle.paths.specs.Costs.{Cost, fin, inf}
use Rattle.paths.specs.Tables.{within, Table}
use Rattle.rules.specs.Views.{View, member}
use Rattle.rules.specs.Segments.{Direction, low, high, Segment, fresh, running, paid, paid_toward, Place}
use Rattle.rules.specs.Prices.{Tech}
use Rattle.rules.specs.Steps.{step, priced}
use Rattle.rules.specs.Walks.{system}
use Rattle.rules.specs.Joins.{join_of}
use Rattle.rules.specs.Tabled.{join_by}
use Rattle.rules.specs.Places.{segment_code, entry_cost, GoodSegment, GoodPlace, GoodTech}
use Rattle.rules.proofs.Joins.{join_by_table}

-- ---- the table

-- the cost at a place: the table has a row for each vertex, and the row an entry for each segment in the
-- order of their numbers
unfoldable pub table_cost : Tech → (table : List (List ℕ)) → Place → Cost
table_cost t table p = entry_cost (get_or (get_or table p.vertex []) (segment_code (largest_min_length t.lines) p.segment) 0)

-- ---- the test at one place

-- no dearer than, as a test
unfoldable pub within_test : Cost → Cost → Bool
within_test (fin m) (fin n) = leb m n
within_test (fin m) inf = true
within_test inf (fin n) = false
within_test inf inf = true

-- an entry is no dearer than any of four
unfoldable pub settled_test : (entry a b c d : Cost) → Bool
settled_test e a b c d = within_test e a && (within_test e b && (within_test e c && within_test e d))

-- a finite entry is reached by one of four
unfoldable pub supported_test : (entry a b c d : Cost) → Bool
supported_test inf a b c d = true
supported_test (fin n) a b c d = within_test a (fin n) || (within_test b (fin n) || (within_test c (fin n) || within_test d (fin n)))

-- both
unfoldable pub moves_test : (entry a b c d : Cost) → Bool
moves_test e a b c d = settled_test e a b c d && supported_test e a b c d

-- 0 at a goal; elsewhere no move is cheaper than the entry, and one reaches it where it is finite
unfoldable pub place_test : Tech → View → (unjoined : List ℕ) → (Place → Cost) → Place → Bool
place_test t view unjoined D p =
    elim (member p.vertex unjoined) [
      | true ↦ is_cost 0 (D p)
      | false ↦ moves_test (D p)
          (through D (priced (step t view p 0)))
          (through D (priced (step t view p 1)))
          (through D (priced (step t view p 2)))
          (through D (priced (step t view p 3)))
    ]

-- ---- the test at every place

-- a test of every number below n
unfoldable pub all_below : (ℕ → Bool) → (n : ℕ) → Bool
all_below test zero = true
all_below test (suc n) = all_below test n && test n

-- a test of every good segment
unfoldable pub all_segments : (largest : ℕ) → (Segment → Bool) → Bool
all_segments largest test =
    test fresh
    && (test paid
    && (test (paid_toward low)
    && (test (paid_toward high) && all_below (λ n. test (running low (suc n)) && test (running high (suc n))) (largest - 1))))

-- the test of a table at every good place
unfoldable pub certified : Tech → View → (unjoined : List ℕ) → (table : List (List ℕ)) → Bool
certified t view unjoined table =
    all_below
    (λ v. all_segments (largest_min_length t.lines) (λ s. place_test t view unjoined (table_cost t table) (record { vertex = v; segment = s })))
    (vertices t.grid)

-- ---- what the tests mean

-- no dearer than
within_test_lem : (c d : Cost) → T (within_test c d) → within c d
unfolding within_test
within_test_lem (fin m) (fin n) h = leb→le m n h
within_test_lem (fin m) inf h = tt
within_test_lem inf (fin n) h = h
within_test_lem inf inf h = tt

-- one of two tests
or_holds : (a b : Bool) → T (a || b) → T a ⊎ T b
or_holds true b h = inl tt
or_holds false b h = inr h

-- 0 passes the test for 0 alone
zero_test : (c : Cost) → T (is_cost 0 c) → c ≡ fin 0
unfolding is_cost
zero_test (fin n) h = rw (eqb→eq n 0 h)
zero_test inf h = absurd h

module _ (f : ℕ → Cost) where
  -- no move is cheaper than the entry
  moves_settled : (e : Cost) (m : ℕ) → m < 4 → T (moves_test e (f 0) (f 1) (f 2) (f 3)) → within e (f m)
  unfolding moves_test settled_test
  moves_settled e m b h =
      let all = ((and_holds (settled_test e (f 0) (f 1) (f 2) (f 3)) _).0 h).0 in
      let first = (and_holds (within_test e (f 0)) _).0 all in
      let second = (and_holds (within_test e (f 1)) _).0 first.1 in
      let third = (and_holds (within_test e (f 2)) _).0 second.1 in
      by (within_test_lem e (f 0) first.0) (within_test_lem e (f 1) second.0) (within_test_lem e (f 2) third.0) (within_test_lem e (f 3) third.1) m b
    where
      by : within e (f 0) → within e (f 1) → within e (f 2) → within e (f 3) → (m : ℕ) → m < 4 → within e (f m)
      by a b c d zero h = a
      by a b c d (suc zero) h = b
      by a b c d (suc (suc zero)) h = c
      by a b c d (suc (suc (suc zero))) h = d
      by a b c d (suc (suc (suc (suc m)))) h = absurd (omega arith)

  -- a move reaches a finite entry
  moves_supported : (n : ℕ) → T (moves_test (fin n) (f 0) (f 1) (f 2) (f 3)) → (m : ℕ) × (m < 4) × within (f m) (fin n)
  unfolding moves_test supported_test
  moves_supported n h = first (or_holds (by 0) _ ((and_holds (settled_test (fin n) (f 0) (f 1) (f 2) (f 3)) _).0 h).1)
    where
      by : ℕ → Bool
      by m = within_test (f m) (fin n)

      is : (m : ℕ) → m < 4 → T (by m) → (m : ℕ) × (m < 4) × within (f m) (fin n)
      is m b h = (m, b, within_test_lem (f m) (fin n) h)

      third : T (by 2) ⊎ T (by 3) → (m : ℕ) × (m < 4) × within (f m) (fin n)
      third (inl h) = is 2 (omega arith) h
      third (inr h) = is 3 (omega arith) h

      second : T (by 1) ⊎ T (by 2 || by 3) → (m : ℕ) × (m < 4) × within (f m) (fin n)
      second (inl h) = is 1 (omega arith) h
      second (inr h) = third (or_holds (by 2) (by 3) h)

      first : T (by 0) ⊎ T (by 1 || (by 2 || by 3)) → (m : ℕ) × (m < 4) × within (f m) (fin n)
      first (inl h) = is 0 (omega arith) h
      first (inr h) = second (or_holds (by 1) (by 2 || by 3) h)

-- a test of every number below n holds of each
below_holds : (test : ℕ → Bool) (n k : ℕ) → k < n → T (all_below test n) → T (test k)
unfolding all_below
below_holds test zero k b h = absurd (omega arith)
below_holds test (suc n) k b h = by (ℕ_discrete k n) ((and_holds (all_below test n) (test n)).0 h) (below_holds test n k)
  where
    by : Dec (k ≡ n) → T (all_below test n) × T (test n) → (k < n → T (all_below test n) → T (test k)) → T (test k)
    by (yes e) both earlier = rw e both.1
    by (no d) both earlier = earlier (omega arith) both.0

-- a test of every good segment holds of each
segment_holds : (largest : ℕ) (test : Segment → Bool) (s : Segment) → GoodSegment largest s → T (all_segments largest test) → T (test s)
unfolding GoodSegment all_segments
segment_holds largest test s good h =
    let first = (and_holds (test fresh) _).0 h in
    let second = (and_holds (test paid) _).0 first.1 in
    let third = (and_holds (test (paid_toward low)) _).0 second.1 in
    let fourth = (and_holds (test (paid_toward high)) _).0 third.1 in
    by first.0 second.0 third.0 fourth.0 fourth.1 s good
  where
    run : ℕ → Bool
    run n = test (running low (suc n)) && test (running high (suc n))

    at_run : (d : Direction) (n : ℕ) → T (run n) → T (test (running d (suc n)))
    at_run low n h = ((and_holds (test (running low (suc n))) _).0 h).0
    at_run high n h = ((and_holds (test (running low (suc n))) _).0 h).1

    by : T (test fresh) → T (test paid) → T (test (paid_toward low)) → T (test (paid_toward high)) → T (all_below run (largest - 1))
        → (s : Segment) → GoodSegment largest s → T (test s)
    by a b c d e fresh good = a
    by a b c d e (running toward zero) good = absurd (omega arith)
    by a b c d e (running toward (suc n)) good = at_run toward n (below_holds run (largest - 1) n (omega arith) e)
    by a b c d e paid good = b
    by a b c d e (paid_toward low) good = c
    by a b c d e (paid_toward high) good = d

module _ (t : Tech) (view : View) (unjoined : List ℕ) (table : List (List ℕ)) (h : T (certified t view unjoined table)) where
  -- the test holds at every good place
  at_place : {p : Place} → GoodPlace t p → T (place_test t view unjoined (table_cost t table) p)
  unfolding certified
  at_place {p} good =
      segment_holds (largest_min_length t.lines) _ p.segment good.segment
      (below_holds _ (vertices t.grid) p.vertex good.vertex h)

  -- a table that passes the test has the least costs
  pub certificate : Table (system t view unjoined) (GoodPlace t) (table_cost t table)
  unfolding place_test
  certificate =
      record {
        goals = λ {s} good e. zero_test (table_cost t table s) (rw (e, place_test) at (at_place good));
        settled = λ {s} {m} good e b. moves_settled (costs s) (table_cost t table s) m b (rw (e, place_test) at (at_place good));
        supported = λ {s} {n} good e is. moves_supported (costs s) n (rw (e, place_test, is) at (at_place good));
      }
    where
      costs : Place → ℕ → Cost
      costs s m = through (table_cost t table) (priced (step t view s m))

-- ---- the join

-- the cheapest join is the join by a table that passes the test
pub certified_join : (t : Tech) (view : View) (tree unjoined : List ℕ) (table : List (List ℕ)) → GoodTech t → T (certified t view unjoined table)
    → join_by t view tree unjoined (table_cost t table) ≡ join_of t view tree unjoined
certified_join t view tree unjoined table good h = join_by_table good view tree unjoined (certificate t view unjoined table h)
