-- `replay::whole::replay_plan` meets its contract.
use Rattle.walker.proofs.Wholes.{plan_room, pins_held, nets_held, after_long, count-zeroed, bare_long}
use Rattle.replay.specs.Structs.{IsEnd}
use Rattle.replay.proofs.Wholes.{plan_answer, plan_map, plan_counted, count_finished, end_both}
use Rattle.replay.proofs.whole.replay_plan.Goals as goal

pub zero_codes-requires : goal.zero_codes-requires
zero_codes-requires c = rw c.vertices-count.ensures (plan_room _ _ _ _ _ _ c.requires.0)

pub lay_all_pins-requires : goal.lay_all_pins-requires
lay_all_pins-requires c =
    let pre = c.requires.0 in
    (pins_held _ _ _ _ _ _ pre, bare_long _ _ _ _ _ _ pre (count-zeroed _ c.vertices-count.ensures c.zero_codes.ensures))

pub read_nets-read-requires : goal.read_nets-read-requires
read_nets-read-requires c =
    let laid = c.lay_all_pins.ensures in
    let pre = c.requires in
    (nets_held _ _ _ _ _ _ pre.0 (count-zeroed _ c.vertices-count.ensures c.zero_codes.ensures) laid.kept laid.codes, pre.1)

pub end_plan-requires : goal.end_plan-requires
end_plan-requires c = c.read_nets-read.ensures.fits

pub finish_map-requires : goal.finish_map-requires
finish_map-requires c =
    let pre = c.requires.0 in
    let count = c.vertices-count.ensures in
    rw count (
      pre.fits.sized.vertices,
      after_long _ _ _ _ _ _ pre (count-zeroed _ count c.zero_codes.ensures) c.lay_all_pins.ensures.kept
          c.read_nets-read.ensures.kept,
    )

pub returns : goal.returns
returns c =
    let pre = c.requires.0 in
    let count = c.vertices-count.ensures in
    let zeros = count-zeroed _ count c.zero_codes.ensures in
    let kept = c.lay_all_pins.ensures.kept in
    let read = c.read_nets-read.ensures in
    let ended : IsEnd _ c.read_nets-read.result c.totals_of_both-replayed.result = rw c.totals_of_both-replayed.ensures (end_both _ _ _ c.end_plan.ensures) in
    let finished = count_finished _ _ _ count c.finish_map.ensures in
    record {
      answer = plan_answer _ _ _ _ _ _ pre zeros kept _ _ _ read.answer read.kept ended finished;
      map = plan_map _ _ _ _ _ _ pre zeros kept _ _ _ read.answer read.kept ended finished;
      counts = λ j is. plan_counted j _ _ _ (read.counts j is);
    }
