-- `rules::track::entered_by` meets its contract.
use mathlib.Core.Path.{refl, ◌∙◌}
use native.Mathlib.Omega.{arith}
use Rattle.job.specs.Structs.{grid_of}
use Rattle.rules.specs.Tracks.{entered}
use Rattle.rules.specs.Structs.{entered_of}
use Rattle.rules.proofs.Fitting.{fits, low_by, down_by, enters_none, one_more, track_read}
use Rattle.rules.proofs.track.entered_by.Goals as goal

pub track_of-track-requires : goal.track_of-track-requires
track_of-track-requires c = (c.requires.0.small, rw c.requires.1 (fits c.args.grid c.args.v c.requires.0).layer)

pub overflow_mul-level : goal.overflow_mul-level
overflow_mul-level c = omega (arith, (fits c.args.grid c.args.v c.requires.0).level)

pub lower-requires : goal.lower-requires
lower-requires c h =
    let r = track_read c.args.grid c.args.v c.requires.0 c.requires.1 c.track_of-track.ensures in
    rw r.stride (low_by c.args.grid c.args.v c.requires.0 (rw r.index at h))

pub overflow_add-track : goal.overflow_add-track
overflow_add-track c =
    omega (arith, (track_read c.args.grid c.args.v c.requires.0 c.requires.1 c.track_of-track.ensures).index_fits)

pub higher-requires : goal.higher-requires
higher-requires c h =
    omega (arith, (track_read c.args.grid c.args.v c.requires.0 c.requires.1 c.track_of-track.ensures).stride_fits, (fits c.args.grid c.args.v c.requires.0).vertex)

pub lower-requires-in-2 : goal.lower-requires-in-2
lower-requires-in-2 c h =
    let r = track_read c.args.grid c.args.v c.requires.0 c.requires.1 c.track_of-track.ensures in
    down_by c.args.grid c.args.v c.requires.0 (rw r.layer at h)

pub overflow_add-from : goal.overflow_add-from
overflow_add-from c =
    omega (arith, (track_read c.args.grid c.args.v c.requires.0 c.requires.1 c.track_of-track.ensures).layer, (fits c.args.grid c.args.v c.requires.0).layer)

pub higher-requires-in-3 : goal.higher-requires-in-3
higher-requires-in-3 c h =
    omega (arith, (fits c.args.grid c.args.v c.requires.0).level, (fits c.args.grid c.args.v c.requires.0).vertex)

pub returns-in-0 : goal.returns-in-0
unfolding entered
returns-in-0 c =
    let r = track_read c.args.grid c.args.v c.requires.0 c.requires.1 c.track_of-track.ensures in
    c.lower.ensures ∙ rw (c.in-0.is, r.index, r.stride) refl

pub returns-in-1 : goal.returns-in-1
unfolding entered
returns-in-1 c =
    let r = track_read c.args.grid c.args.v c.requires.0 c.requires.1 c.track_of-track.ensures in
    c.higher.ensures ∙ rw (c.in-1.is, r.index, one_more, r.length, r.stride) refl

pub returns-in-2 : goal.returns-in-2
unfolding entered
returns-in-2 c =
    let r = track_read c.args.grid c.args.v c.requires.0 c.requires.1 c.track_of-track.ensures in
    c.lower-in-2.ensures ∙ rw (c.in-2.is, r.layer) refl

pub returns-in-3 : goal.returns-in-3
unfolding entered
returns-in-3 c =
    let r = track_read c.args.grid c.args.v c.requires.0 c.requires.1 c.track_of-track.ensures in
    c.higher-in-3.ensures ∙ rw (c.in-3.is, r.layer, one_more) refl

pub returns-in_default : goal.returns-in_default
unfolding entered_of
returns-in_default c =
    let args = c.args in
    rw (enters_none (grid_of args.grid) args.v args.number (omega arith) (omega arith) (omega arith) (omega arith)) refl
