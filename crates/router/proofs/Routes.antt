-- What the code of routing asks and leaves.
--     route_asked               what routing a job asks, once the need of work is zero
--     end_short, end_enough     the test of the plan slice
--     route_ended               what the end leaves of what routing left is the outcome
use Prim.Native.Nat.{ℕ, ◌+◌, ◌*◌, ◌/◌, ◌≤◌, ◌<◌}
use mathlib.Core.Path.{◌≡◌, refl, sym, ap, subst, ◌∙◌}
use mathlib.Core.List.{List, [], ◌++◌, append-nil}
use mathlib.Core.Bool.{cond}
use native.Mathlib.Decide.{dec_lt}
use native.Mathlib.Omega.{arith}
use native.Mathlib.Nat.{add-mul}
use lib.ListN.{length, drop, replicate}
use lib.Seq.{drop_at, drop-length}
use lib.Dec.{ltb}
use borrow.Author.Tests.{lt-ltb, le-ltb}
use Rattle.bits.specs.Puts.{put_bits, AllBelow}
use Rattle.bits.proofs.Laws.{length-pack_bits, length-put_bits, put_packed}
use Rattle.job.specs.Grid.{vertices}
use Rattle.job.specs.Job.{Job, largest_min_length}
use Rattle.job.specs.Reading.{good}
use Rattle.rules.specs.Routings.{routing, Totals}
use Rattle.rules.specs.Joins.{places}
use Rattle.rules.specs.Maps.{map_of}
use Rattle.rules.specs.Prices.{tech_of}
use Rattle.rules.specs.Structs.{tech_by}
use Rattle.plan.specs.Layout.{plan_of, plan_bytes}
use Rattle.plan.proofs.TwoWay.{entries_below}
use Rattle.metal.specs.Codes.{Bare}
use Rattle.job.specs.Slices.{zeroed}
use Rattle.metal.proofs.Slices.{zeroed_bare, zeroed-beyond}
use Rattle.metal.proofs.Finished.{length-map}
use Rattle.walker.specs.Structs.{PlanHeld}
use Rattle.plan.specs.Leaving.{replayed_map}
use Rattle.search.specs.Charts.{Blank}
use Rattle.routing.specs.Plans.{plan_bits}
use Rattle.router.specs.Room.{work_need, read_with_room}
use Rattle.router.specs.Routing.{refused_routing, total_result, routing_of}
use Rattle.router.specs.Held.{routing_leaves, JobHeld}
use Rattle.router.specs.declared.held.Held.{Held}
use Rattle.router.specs.declared.routing_call.RoutingResult.{RoutingResult}
use Rattle.router.proofs.Holding.{Roomy, plan_asked}
use Rattle.router.proofs.Ends.{routes_short, routes_whole}

-- what routing asks, with the need of work zero
pub route_asked : {bytes : List ℕ} {occupants : List ℕ} {held : Held} (h : JobHeld bytes occupants held) (map work : List ℕ) {workNow : List ℕ}
    → Roomy bytes h.job map work → workNow ≡ zeroed held.work work
    → PlanHeld bytes held.tech occupants map held.nets held.from × Blank (tech_by held.tech) workNow
unfolding Bare places tech_of work_need
route_asked {bytes} {occupants} {held} h map work roomy zeros =
    let j = h.job in
    let longest = largest_min_length j.lines + 1 in
    let both : vertices j.grid * 2 * longest + vertices j.grid * 2 * longest ≡ vertices j.grid * 4 * longest =
    let two : vertices j.grid * 2 + vertices j.grid * 2 ≡ vertices j.grid * 4 = omega arith in
    sym (add-mul (vertices j.grid * 2) (vertices j.grid * 2) longest) ∙ ap (λ (x : ℕ). x * longest) two in
    let need : places (tech_by held.tech) + places (tech_by held.tech) ≡ held.work = rw (h.layers, h.work) both in
    let room : held.work ≤ length work = omega (arith, h.work, roomy.need) in
    rw zeros (
      plan_asked h roomy.vertices,
      record {
        room = omega (arith, need, room, (zeroed-beyond {xs = work} room).size);
        bare = λ c below. zeroed_bare held.work work c (omega (arith, need, below));
      },
    )

-- ---- the test of the plan slice

module _ {A : Type 0} {m n : ℕ} (short whole : A) where
  -- a plan slice of m bytes is short of the n that are needed
  pub end_short : {x : A} → m < n → x ≡ short → x ≡ cond (ltb m n) short whole
  end_short h is = rw (lt-ltb m n h) is

  -- it is not
  pub end_enough : n ≤ m → whole ≡ cond (ltb m n) short whole
  end_enough h = rw (le-ltb m n h) refl

-- ---- the end

module _ (bytes map work plan : List ℕ) (j : Job) (room : read_with_room bytes map work ≡ good j) (below : AllBelow 256 plan) where
  -- the plan needs as many bytes as its bits fill
  bytes_needed : (length (plan_bits j) + 7) / 8 ≡ length (plan_of j)
  unfolding plan_bits plan_of plan_bytes
  bytes_needed = sym (length-pack_bits (plan_bits j))

  -- its bits, where the slice has room for them
  plan_put : length (plan_of j) ≤ length plan → put_bits plan 0 (plan_bits j) ≡ plan_of j ++ drop (length (plan_of j)) plan
  unfolding plan_bits plan_of plan_bytes
  plan_put h =
      rw (← bytes_needed) (put_packed plan (plan_bits j) below (entries_below j.grid (routing j).entries) (omega (arith, h, bytes_needed)))

  -- the map made zero, whatever was laid
  map-zeroed : zeroed (vertices j.grid) (map_of j (routing j).metal ++ drop (vertices j.grid) map) ≡ zeroed (vertices j.grid) map
  unfolding zeroed
  map-zeroed =
      rw (drop_at (map_of j (routing j).metal) (drop (vertices j.grid) map) (vertices j.grid) (length-map j (routing j).metal)) refl

  -- the whole plan slice made zero
  plan_zeroed : zeroed (length plan) (put_bits plan 0 (plan_bits j)) ≡ replicate (length plan) 0
  unfolding zeroed
  plan_zeroed =
      let put = put_bits plan 0 (plan_bits j) in
      let past : drop (length plan) put ≡ [] = subst (λ (k : ℕ). drop k put ≡ []) (length-put_bits plan 0 (plan_bits j)) (drop-length put) in
      rw (past, append-nil) refl

  -- what the end leaves of what routing left is the outcome
  pub route_ended : (totals : Totals) (v bits : ℕ) (mapNow planNow : List ℕ) {r : RoutingResult} {mapEnd workEnd planEnd : List ℕ}
      → v ≡ vertices j.grid → (totals ≡ (routing j).totals) × (bits ≡ length (plan_bits j))
      → mapNow ≡ map_of j (routing j).metal ++ drop (vertices j.grid) map → planNow ≡ put_bits plan 0 (plan_bits j)
      → workEnd ≡ zeroed (work_need j) work
      → r ≡ cond (ltb (length planNow) ((bits + 7) / 8)) (refused_routing 14 ((bits + 7) / 8)) (total_result ((bits + 7) / 8) totals)
      → mapEnd ≡ cond (ltb (length planNow) ((bits + 7) / 8)) (zeroed v mapNow) mapNow
      → planEnd ≡ cond (ltb (length planNow) ((bits + 7) / 8)) (zeroed (length planNow) planNow) planNow
      → routing_leaves r mapEnd workEnd planEnd ≡ routing_of bytes map work plan
  unfolding replayed_map
  route_ended totals v bits mapNow planNow vs (total, counted) maps plans works results mapEnds planEnds =
      rw (results, mapEnds, works, planEnds, vs, total, counted, bytes_needed, maps, plans, length-put_bits plan 0 (plan_bits j))
      (by (dec_lt (length plan) (length (plan_of j))))
    where
      laid : List ℕ
      laid = map_of j (routing j).metal ++ drop (vertices j.grid) map

      put : List ℕ
      put = put_bits plan 0 (plan_bits j)

      n : ℕ
      n = length (plan_of j)

      by : Dec (length plan < n)
          → routing_leaves (cond (ltb (length plan) n) (refused_routing 14 n) (total_result n (routing j).totals))
          (cond (ltb (length plan) n) (zeroed (vertices j.grid) laid) laid) (zeroed (work_need j) work)
          (cond (ltb (length plan) n) (zeroed (length plan) put) put) ≡ routing_of bytes map work plan
      by (yes h) = rw (routes_short bytes map work plan j room h, lt-ltb (length plan) n h, map-zeroed, plan_zeroed) refl
      by (no h) =
          rw (routes_whole bytes map work plan j room (omega arith), le-ltb (length plan) n (omega arith), plan_put (omega arith)) refl
