-- `replay::start::read_start` meets its contract: each way out by its law.
use mathlib.Core.Path.{refl, sym, ap, ◌∙◌}
use native.Mathlib.Omega.{arith}
use Rattle.bits.specs.declared.FieldRead.{FieldRead}
use Rattle.job.proofs.Fields.{is_whole, is_cut, all_left}
use Rattle.job.proofs.Sizes.{inside_fields}
use Rattle.replay.proofs.Parts.{inside_below, vertex_read, vertex_whole, start_cut, start_outside, start_off, start_none, start_whole}
use Rattle.replay.proofs.start.read_start.Goals as goal

pub returns-then-not-whole : goal.returns-then-not-whole
returns-then-not-whole c = rw (c.at.ensures, start_cut _ _ _ _ (is_cut 39 _ _ c.whole.ensures c.if-not-whole.true)) refl

pub returns-in_default : goal.returns-in_default
returns-in_default c = absurd (vertex_whole _ _ (is_whole 39 _ _ c.whole.ensures c.if-not-whole.false) c.vertex_group.ensures c.in_default.is)

pub returns-then-not-inside : goal.returns-then-not-inside
returns-then-not-inside c =
    let w = is_whole 39 _ _ c.whole.ensures c.if-not-whole.false in
    rw (c.at-then-not-inside.ensures, start_outside _ _ _ _ w (vertex_read _ _ w c.vertex_group.ensures c.in-Some.is) (sym c.inside.ensures ∙ c.if-not-inside.true)) refl

pub number-number-requires : goal.number-number-requires
number-number-requires c =
    let small = c.requires.0.small in
    (small, inside_fields _ _ small (rw (sym c.inside.ensures ∙ c.if-not-inside.false) tt))

pub bounds-spots-number : goal.bounds-spots-number
bounds-spots-number c =
    omega (arith, inside_below _ _ (sym c.inside.ensures ∙ c.if-not-inside.false), c.number-number.ensures, c.requires.0.vertices)

pub returns-then-spots-number : goal.returns-then-spots-number
returns-then-spots-number c =
    let w = is_whole 39 _ _ c.whole.ensures c.if-not-whole.false in
    rw (c.at-then-spots-number.ensures, start_off _ _ _ _ w (vertex_read _ _ w c.vertex_group.ensures c.in-Some.is) (sym c.inside.ensures ∙ c.if-not-inside.false) c.number-number.ensures c.if-spots-number.true) refl

pub field-moves-requires : goal.field-moves-requires
field-moves-requires c =
    let left = all_left 39 (is_whole 39 _ _ c.whole.ensures c.if-not-whole.false) (omega (arith, c.requires.1)) in
    record { fitting = record { narrow = omega arith; below = omega (arith, left.below) }; inside = omega (arith, left.inside) }

pub returns-then-moves-lt1 : goal.returns-then-moves-lt1
returns-then-moves-lt1 c =
    let w = is_whole 39 _ _ c.whole.ensures c.if-not-whole.false in
    rw (c.at-then-moves-lt1.ensures, start_none _ _ _ _ w (vertex_read _ _ w c.vertex_group.ensures c.in-Some.is) (sym c.inside.ensures ∙ c.if-not-inside.false) c.number-number.ensures c.if-spots-number.false (ap (λ (t : FieldRead). t.value) c.field-moves.ensures) c.if-moves-lt1.true) refl

pub returns : goal.returns
returns c =
    let w = is_whole 39 _ _ c.whole.ensures c.if-not-whole.false in
    rw (start_whole _ _ _ _ w (vertex_read _ _ w c.vertex_group.ensures c.in-Some.is) (sym c.inside.ensures ∙ c.if-not-inside.false) c.number-number.ensures c.if-spots-number.false (ap (λ (t : FieldRead). t.value) c.field-moves.ensures) c.if-moves-lt1.false) refl
