-- `search::retrace::light_one` meets its contract.
use Rattle.search.proofs.Lighting.{none_entered, one_entered, one_lit, lit_stays, lit_long}
use Rattle.search.proofs.retrace.light_one.Goals as goal

pub entered_by-requires : goal.entered_by-requires
entered_by-requires c = let pre = c.requires in (record { small = pre.0.small; there = pre.1 }, pre.2)

pub returns-in_default : goal.returns-in_default
returns-in_default c =
    let pre = c.requires in
    record {
      lit = λ u e. absurd (none_entered _ pre.0 pre.1 c.entered_by.ensures c.in_default.is u e);
      stays = λ u m on. on;
      long = pre.3;
    }

pub bounds-near-u : goal.bounds-near-u
bounds-near-u c =
    one_entered _ c.requires.0 c.requires.1 c.entered_by.ensures c.in-Some.is

pub bounds-near-u-2 : goal.bounds-near-u-2
bounds-near-u-2 c =
    one_entered _ c.requires.0 c.requires.1 c.entered_by.ensures c.in-Some.is

pub returns : goal.returns
returns c =
    let pre = c.requires in
    let near = c.args.near.now in
    let entered = c.entered_by.ensures in
    let into = c.in-Some.is in
    let moved = c.with_move.ensures in
    record {
      lit = rw moved (one_lit _ pre.0 pre.1 entered into near pre.3 _);
      stays = rw moved (lit_stays _ pre.0 pre.1 entered into near pre.3 _);
      long = rw moved (lit_long _ pre.0 pre.1 entered into near pre.3 _);
    }
