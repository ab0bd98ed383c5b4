-- `replay::judge::judge_move` meets its contract: each way out by its law.
use mathlib.Core.Path.{sym, ap}
use native.Mathlib.Omega.{arith}
use Rattle.bits.specs.declared.FieldRead.{FieldRead}
use Rattle.job.proofs.Fields.{is_whole, is_cut, all_left, room}
use Rattle.rules.specs.Structs.{tech_by}
use Rattle.replay.specs.Structs.{judged_of, WholeJudged}
use Rattle.replay.proofs.Parts.{agree, place_short, made_below, move_cut, judged_illegal, judged_other, judged_good}
use Rattle.replay.proofs.judge.judge_move.Goals as goal

pub returns-then-not-whole : goal.returns-then-not-whole
unfolding judged_of WholeJudged
returns-then-not-whole c =
    rw c.at.ensures (record { same = sym (move_cut _ _ _ _ _ _ _ (is_cut 2 _ _ c.whole.ensures c.if-not-whole.true)); whole = tt })

pub field-number-requires : goal.field-number-requires
field-number-requires c = room tt (all_left 2 (is_whole 2 _ _ c.whole.ensures c.if-not-whole.false) (omega (arith, c.requires.1)))

pub step-requires : goal.step-requires
unfolding tech_by
step-requires c =
    let here = c.requires.0 in
    (here.place.vertex, place_short c.args.prices.now c.args.place here)

pub returns-in_default : goal.returns-in_default
unfolding tech_by
returns-in_default c =
    rw c.at-in_default.ensures (judged_illegal _ _ _ _ _ _ _ (is_whole 2 _ _ c.whole.ensures c.if-not-whole.false) (ap (λ (t : FieldRead). t.value) c.field-number.ensures)
    c.step.ensures c.in_default.is)

pub bounds-spots-vertex : goal.bounds-spots-vertex
bounds-spots-vertex c = made_below c.args.prices.now c.args.place _ _ c.requires.0 c.step.ensures c.in-Some.is

pub returns-then-pin-last : goal.returns-then-pin-last
unfolding tech_by
returns-then-pin-last c =
    rw c.at-then-pin-last.ensures (judged_other _ _ _ c.args.spots.now c.args.last _ _ (is_whole 2 _ _ c.whole.ensures c.if-not-whole.false) (ap (λ (t : FieldRead). t.value) c.field-number.ensures)
    c.step.ensures c.in-Some.is (agree _ _ c.if-pin-last.true))

pub returns : goal.returns
unfolding tech_by
returns c =
    judged_good _ _ _ c.args.spots.now c.args.last _ _ (is_whole 2 _ _ c.whole.ensures c.if-not-whole.false) (ap (λ (t : FieldRead). t.value) c.field-number.ensures)
    c.step.ensures c.in-Some.is (agree _ _ c.if-pin-last.false)
