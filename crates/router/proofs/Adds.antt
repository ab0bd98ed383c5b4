-- Theorems about the wire report.
--     report_replays       but for 19 it returns and leaves what replay does, with the plan's counts added
--     accepted_pays        counts times prices make the cost of every plan that replay accepts
--     report_parts         the outcome in its parts, with what its counts pay
--     report_beyond        past its 48 numbers the report is as found
--     report_sums          after a list of calls: what it held before plus the counts of those accepted
--     report_at            the same at each place
use Prim.Native.Nat.{ℕ, ◌+◌, ◌≤◌, ◌<◌}
use mathlib.Core.Path.{◌≡◌, refl, sym, ap, ◌∙◌}
use mathlib.Core.List.{List, [], ◌∷◌}
use mathlib.Core.Bool.{cond}
use native.Mathlib.Omega.{arith}
use lib.ListN.{length, get_or}
use lib.Dec.{eqb}
use borrow.Author.Tests.{ne_eqb}
use Rattle.job.specs.Reading.{Read, refused, good, ◌>>=◌, ◌>>◌}
use Rattle.job.proofs.TwoWay.{rules_hold}
use Rattle.counts.specs.Counts.{Count, report_need, counted}
use Rattle.counts.specs.Places.{count_at}
use Rattle.counts.specs.Reports.{room_in}
use Rattle.counts.proofs.Adding.{Placed, counted-append, counted-length, counted_at, counted-beyond}
use Rattle.counts.proofs.Reporting.{room_number}
use Rattle.counts.proofs.PlanWorth.{plan_worth}
use Rattle.router.specs.Replay.{refused_replay, replay_result, replay_of}
use Rattle.router.specs.Report.{planned_counts, counts_read, report_result, counts_of, report_of, CountsPay, CountsPayIn}
use Rattle.router.specs.Calls.{Call, called_on, report_after, accepted_counts}
use Rattle.router.specs.Held.{report_leaves}
use Rattle.router.specs.declared.replay_call.ReplayResult.{ReplayResult}
use Rattle.router.proofs.Promises.{room_read}
use Rattle.router.proofs.Reports.{ReplayEnds, turned, taken, replay_ends, placed}

module _ (bytes plan map work : List ℕ) where
  -- but for 19 it returns and leaves what replay does, with the plan's counts added; a plan that replay turns
  -- back has none
  pub report_replays : (report : List ℕ) → ((report_of bytes plan map work report).result.refusal ≡ 19 → ⊥)
      → report_of bytes plan map work report
      ≡ report_leaves (replay_of bytes plan map work).result (replay_of bytes plan map work).map (replay_of bytes plan map work).work
      (counted (counts_of (planned_counts bytes plan map work)) report)
  unfolding report_of counts_read report_result counts_of refused_replay ◌>>=◌ ◌>>◌
  report_replays report other = by (replay_ends bytes plan map work) other
    where
      by_room : (cs : List Count) → planned_counts bytes plan map work ≡ good cs → (x : Read Unit) → room_in report (counted cs report) ≡ x
          → ((report_of bytes plan map work report).result.refusal ≡ 19 → ⊥)
          → report_of bytes plan map work report
          ≡ report_leaves (replay_of bytes plan map work).result (replay_of bytes plan map work).map (replay_of bytes plan map work).work
          (counted (counts_of (planned_counts bytes plan map work)) report)
      by_room cs planned (refused n p) e h = absurd (h (rw (planned, e) (room_number report (counted cs report) e)))
      by_room cs planned (good u) e h = rw (planned, e) refl

      by : ReplayEnds bytes plan map work → ((report_of bytes plan map work report).result.refusal ≡ 19 → ⊥)
          → report_of bytes plan map work report
          ≡ report_leaves (replay_of bytes plan map work).result (replay_of bytes plan map work).map (replay_of bytes plan map work).work
          (counted (counts_of (planned_counts bytes plan map work)) report)
      by (turned t) h = rw (t.counts, t.result) refl
      by (taken t) h = by_room _ t.counts _ refl h

  -- counts times prices make the cost of every plan that replay accepts
  pub accepted_pays : CountsPayIn bytes plan map work (replay_of bytes plan map work).result
  unfolding counts_of refused_replay replay_result
  accepted_pays none = by (replay_ends bytes plan map work)
    where
      by : ReplayEnds bytes plan map work → CountsPay bytes plan map work (replay_of bytes plan map work).result.cost
      by (turned t) = absurd (t.some (sym (ap (λ (x : ReplayResult). x.refusal) t.result) ∙ none))
      by (taken {j = j} {r = r} t) =
          let read = room_read bytes map work j t.room in
          record { job = j; read = read; pays = rw (t.counts, t.result) (plan_worth j plan (rules_hold bytes j read) r t.reads) }

  -- the outcome in its parts, with what its counts pay
  pub report_parts : (report : List ℕ) {r : ReplayResult} {mapNow workNow after : List ℕ} → report_leaves r mapNow workNow after ≡ report_of bytes plan map work report
      → (r ≡ (report_of bytes plan map work report).result)
      × ((mapNow ≡ (report_of bytes plan map work report).map)
      × ((workNow ≡ (report_of bytes plan map work report).work)
      × ((after ≡ (report_of bytes plan map work report).report) × CountsPayIn bytes plan map work r)))
  report_parts report {r} e = (λ i. (e i).result, (λ i. (e i).map, (λ i. (e i).work, (λ i. (e i).report, pays))))
    where
      pays : CountsPayIn bytes plan map work r
      pays none =
          let number : (report_of bytes plan map work report).result.refusal ≡ 0 = sym (λ i. (e i).result.refusal) ∙ none in
          let same : r ≡ (replay_of bytes plan map work).result = (λ i. (e i).result) ∙ (λ i. (report_replays report (λ z. omega (arith, z, number)) i).result) in
          rw same (accepted_pays (sym (λ i. (same i).refusal) ∙ none))

  -- past its 48 numbers the report is as found, and it stays as long
  pub report_beyond : (report : List ℕ)
      → (length (report_of bytes plan map work report).report ≡ length report)
      × ((i : ℕ) → report_need ≤ i → get_or (report_of bytes plan map work report).report i 0 ≡ get_or report i 0)
  unfolding report_of counts_read counts_of ◌>>=◌ ◌>>◌ counted
  report_beyond report = (counted-length (counts_of (counts_read bytes plan map work report)) report, λ i far. by (replay_ends bytes plan map work) i far)
    where
      by_room : (cs : List Count) → Placed cs → (x : Read Unit) (i : ℕ) → report_need ≤ i
          → get_or (counted (counts_of (◌>>◌ x (good cs))) report) i 0 ≡ get_or report i 0
      by_room cs places (refused n p) i far = refl
      by_room cs places (good u) i far = counted-beyond cs report i places far

      by : ReplayEnds bytes plan map work → (i : ℕ) → report_need ≤ i → get_or (report_of bytes plan map work report).report i 0 ≡ get_or report i 0
      by (turned t) i far = rw t.counts refl
      by (taken t) i far = rw t.counts (by_room _ (placed bytes plan map work t) (room_in report _) i far)

  -- a call that is not refused adds the counts of its plan, any other nothing
  call_adds : (report : List ℕ)
      → counts_of (counts_read bytes plan map work report)
      ≡ cond (eqb (report_of bytes plan map work report).result.refusal 0) (counts_of (planned_counts bytes plan map work)) []
  unfolding report_of counts_read report_result counts_of refused_replay replay_result ◌>>=◌ ◌>>◌
  call_adds report = by (replay_ends bytes plan map work)
    where
      by_room : (cs : List Count) → planned_counts bytes plan map work ≡ good cs → (replay_of bytes plan map work).result.refusal ≡ 0
          → (x : Read Unit) → room_in report (counted cs report) ≡ x
          → counts_of (counts_read bytes plan map work report)
          ≡ cond (eqb (report_of bytes plan map work report).result.refusal 0) (counts_of (planned_counts bytes plan map work)) []
      by_room cs planned none (refused n p) e =
          let number = room_number report (counted cs report) e in
          rw (planned, e, number) refl
      by_room cs planned none (good u) e = rw (planned, e, none) refl

      by : ReplayEnds bytes plan map work
          → counts_of (counts_read bytes plan map work report)
          ≡ cond (eqb (report_of bytes plan map work report).result.refusal 0) (counts_of (planned_counts bytes plan map work)) []
      by (turned {n = n} t) = rw (t.counts, ne_eqb n 0 t.some) refl
      by (taken t) = by_room _ t.counts (ap (λ (x : ReplayResult). x.refusal) t.result) _ refl

-- "The report over a list of plans is what it held before plus the sum over the records of those accepted."
pub report_sums : (calls : List Call) (report : List ℕ) → report_after calls report ≡ counted (accepted_counts calls report) report
unfolding report_after accepted_counts counted report_of
report_sums [] report = refl
report_sums (c ∷ cs) report =
    let adds = call_adds c.bytes c.plan c.map c.work report in
    let next = (called_on c report).report in
    let own = cond (eqb (called_on c report).result.refusal 0) (counts_of (planned_counts c.bytes c.plan c.map c.work)) [] in
    report_sums cs next ∙ ap (counted (accepted_counts cs next)) (ap (λ (xs : List Count). counted xs report) adds)
    ∙ sym (counted-append own (accepted_counts cs next) report)

-- the same at each place
pub report_at : (calls : List Call) (report : List ℕ) (i : ℕ) → i < length report
    → get_or (report_after calls report) i 0 ≡ get_or report i 0 + count_at (accepted_counts calls report) i
report_at calls report i on = rw (report_sums calls report) (counted_at (accepted_counts calls report) report i on)
