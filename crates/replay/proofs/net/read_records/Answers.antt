-- `replay::net::read_records` meets its contract.
use mathlib.Core.Path.{refl, sym, ap, ◌∙◌}
use native.Mathlib.Omega.{arith}
use Rattle.std.proofs.Common.{Ok}
use Rattle.bits.proofs.Laws.{bits_of_bits}
use Rattle.replay.specs.Structs.{JoinFits}
use Rattle.counts.proofs.Counting.{fit_under}
use Rattle.replay.proofs.Parts.{passed_same}
use Rattle.replay.proofs.Recording.{recording_begun, recording_joined, recording_cut, recording_none, recording_refused, recording_on, recording_done}
use Rattle.replay.proofs.net.read_records.Goals as goal

pub loop-record-init : goal.loop-record-init
loop-record-init c = recording_begun _ _ _ _ _ _ _ _ _ _ _ refl c.requires.3 c.requires.4

pub with_net-requires : goal.with_net-requires
with_net-requires c = omega (arith, c.loop-record.invariant.joined, c.requires.2)

pub returns-then-not-some_unjoined : goal.returns-then-not-some_unjoined
returns-then-not-some_unjoined c =
    let all = recording_joined _ _ _ _ _ _ _ _ _ _ c.loop-record.invariant c.loop-record-test.true (sym c.some_unjoined.ensures ∙ c.if-not-some_unjoined.true) c.requires.1.few
    c.with_net.ensures in
    record { answer = all.0; fits = all.1.0; map = all.1.1.0; counts = all.1.1.1 }

pub returns-in_err-more : goal.returns-in_err-more
returns-in_err-more c =
    let all = recording_cut _ _ _ _ _ _ _ _ _ _ c.loop-record.invariant c.loop-record-test.true (sym c.some_unjoined.ensures ∙ c.if-not-some_unjoined.false) c.read_flag.ensures
    c.in_err-more.was in
    rw (passed_same c.from_residual.ensures) (record { answer = all.0; fits = all.1.0; map = all.1.1.0; counts = all.1.1.1 })

pub returns-then-not-more : goal.returns-then-not-more
returns-then-not-more c =
    let all = recording_none _ _ _ _ _ _ _ _ _ _ c.loop-record.invariant c.loop-record-test.true (sym c.some_unjoined.ensures ∙ c.if-not-some_unjoined.false) c.read_flag.ensures
    (c.in_ok-more.was ∙ ap (λ b. Ok b) c.if-not-more.true) c.requires.1.few in
    record { answer = all.0; fits = all.1.0; map = all.1.1.0; counts = all.1.1.1 }

pub read_join-requires : goal.read_join-requires
read_join-requires c =
    let pre = c.requires in
    let inv = c.loop-record.invariant in
    (omega (arith, pre.0, inv.size), omega (arith, inv.bounded.reach, pre.2, pre.1.few), fit_under _ inv.small (omega arith))

pub returns-in_err-joined : goal.returns-in_err-joined
returns-in_err-joined c =
    let read = c.read_join.ensures in
    let all = recording_refused _ _ _ _ _ _ _ _ _ _ c.loop-record.invariant c.loop-record-test.true (sym c.some_unjoined.ensures ∙ c.if-not-some_unjoined.false) c.read_flag.ensures
    (c.in_ok-more.was ∙ ap (λ b. Ok b) c.if-not-more.false) _ read.answer c.in_err-joined.was read.map _ in
    rw (passed_same c.from_residual-in_err-joined.ensures) (record { answer = all.0; fits = all.1.0; map = all.1.1.0; counts = all.1.1.1 })

pub with_join-totals-requires : goal.with_join-totals-requires
unfolding JoinFits
with_join-totals-requires c =
    let fit = rw c.in_ok-joined.was at c.read_join.ensures.fits in
    let pre = c.requires in
    let b = c.loop-record.invariant.bounded in (
      omega (arith, b.cost, fit.0.cost, pre.2, pre.1.few),
      omega (arith, b.added, fit.0.added, pre.2, pre.1.few),
      omega (arith, b.penalties, fit.0.penalties, pre.2, pre.1.few),
    )

pub loop-record-preserved : goal.loop-record-preserved
loop-record-preserved c =
    let read = c.read_join.ensures in
    recording_on _ _ _ _ _ _ _ _ _ _ c.loop-record.invariant c.loop-record-test.true (sym c.some_unjoined.ensures ∙ c.if-not-some_unjoined.false) c.read_flag.ensures
    (c.in_ok-more.was ∙ ap (λ b. Ok b) c.if-not-more.false) c.args.prices.now.fits (bits_of_bits _) _ read.answer read.fits c.in_ok-joined.was
    read.spots read.map c.with_join-totals.ensures _ read.counts

pub with_net-requires-2 : goal.with_net-requires-2
with_net-requires-2 c = omega (arith, c.loop-record.invariant.joined, c.requires.2)

pub returns : goal.returns
returns c =
    let all = recording_done _ _ _ _ _ _ _ _ _ _ c.loop-record.invariant c.loop-record-test.false c.requires.1.few c.with_net-2.ensures in
    record { answer = all.0; fits = all.1.0; map = all.1.1.0; counts = all.1.1.1 }
