-- `routing::net::route_records` meets its contract.
use Prim.Native.Nat.{ℕ, ◌+◌, ◌-◌}
use mathlib.Core.Path.{◌≡◌, refl, sym, ap, ◌∙◌}
use mathlib.Core.List.{List}
use native.Mathlib.Omega.{arith}
use lib.ListN.{length}
use Rattle.rules.specs.Structs.{tech_by}
use Rattle.joins.specs.Joined.{JoinedFits}
use Rattle.routing.proofs.Records.{recording_begun, recording_joined, recording_done}
use Rattle.routing.proofs.OneRecord.{recording_none, recording_on}
use Rattle.routing.proofs.net.route_records.Goals as goal

pub loop-turn-init : goal.loop-turn-init
loop-turn-init c =
    let pre = c.requires in
    let all : c.args.hand.pins - 0 ≡ c.args.hand.pins = omega arith in
    (rw all (recording_begun _ _ _ _ _ _ _ _ _ pre.4), refl, pre.2)

pub returns-then-not-some_unjoined : goal.returns-then-not-some_unjoined
returns-then-not-some_unjoined c =
    let inv = c.loop-turn.invariant in
    let (answer, fits) = recording_joined _ _ _ _ _ _ _ _ _ inv.0 c.requires.2.there.few (sym c.some_unjoined.ensures ∙ c.if-not-some_unjoined.true) c.with_net.ensures in
    record {
      answer = answer;
      fits = fits;
      work = inv.1;
    }

pub next_join-joined-requires : goal.next_join-joined-requires
next_join-joined-requires c =
    let inv = c.loop-turn.invariant in
    let pre = c.requires in (
      rw inv.1 pre.0,
      omega (arith, pre.1, inv.0.size),
      omega (arith, inv.0.bounded.reach, pre.3, pre.2.there.few),
      inv.2,
    )

pub shape_of-work-in_default : goal.shape_of-work-in_default
shape_of-work-in_default c = ap (λ (l : List ℕ). length l) (c.next_join-joined.ensures.work ∙ c.loop-turn.invariant.1)

pub returns-in_default : goal.returns-in_default
unfolding tech_by
returns-in_default c =
    let inv = c.loop-turn.invariant in
    let some = sym c.some_unjoined.ensures ∙ c.if-not-some_unjoined.false in
    let record { written = written; fits = fits; fewer = fewer; work = work } = c.next_join-joined.ensures in
    let (routed, small) = recording_none _ _ _ _ _ _ _ _ _ inv.0 c.requires.2.there.few (omega arith) some _ _ _ _
    written c.in_default.is in
    record {
      answer = routed;
      fits = small;
      work = work ∙ inv.1;
    }

pub with_join-totals-requires : goal.with_join-totals-requires
unfolding JoinedFits
with_join-totals-requires c =
    let fit = rw c.in-Some.is at c.next_join-joined.ensures.fits in
    let b = c.loop-turn.invariant.0.bounded in
    let pre = c.requires in (
      omega (arith, b.cost, fit.0.cost, pre.3, pre.2.there.few),
      omega (arith, b.added, fit.0.added, pre.3, pre.2.there.few),
      omega (arith, b.penalties, fit.0.penalties, pre.3, pre.2.there.few),
    )

pub loop-turn-preserved : goal.loop-turn-preserved
unfolding tech_by
loop-turn-preserved c =
    let inv = c.loop-turn.invariant in
    let some = sym c.some_unjoined.ensures ∙ c.if-not-some_unjoined.false in
    let record { written = written; fits = fits; fewer = fewer; work = work } = c.next_join-joined.ensures in
    let one : c.args.hand.pins - (c.loop-turn._turn + 1) ≡ c.args.hand.pins - c.loop-turn._turn - 1 = omega arith in (
      rw one (recording_on _ _ _ _ _ _ _ _ _ inv.0 c.requires.2.there.few (omega arith) some _ _ _ _
          written fits
          c.next_join-joined.auto.map c.next_join-joined.auto.plan c.in-Some.is c.with_join-totals.ensures),
      work ∙ inv.1,
      record { there = inv.2.there; on_grid = inv.2.on_grid; known = λ v h is. inv.2.known v h (fewer v is) },
    )

pub returns : goal.returns
returns c =
    let inv = c.loop-turn.invariant in
    let (answer, fits) = recording_done _ _ _ _ _ _ _ _ _ inv.0 c.requires.2.there.few (omega arith) c.with_net-2.ensures in
    record {
      answer = answer;
      fits = fits;
      work = inv.1;
    }
