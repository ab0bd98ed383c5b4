-- `routing::whole::route_plan` meets its contract.
use Rattle.walker.proofs.Wholes.{plan_room, pins_held, nets_held, count-zeroed, bare_long}
use Rattle.routing.proofs.Wholes.{routed_long, routed_answer, routed_plan, routed-map}
use Rattle.routing.proofs.whole.route_plan.Goals as goal

pub vertices-count-requires : goal.vertices-count-requires
vertices-count-requires c = c.requires.0.fits.sized.small

pub zero_codes-requires : goal.zero_codes-requires
zero_codes-requires c = rw c.vertices-count.ensures (plan_room _ _ _ _ _ _ c.requires.0)

pub lay_all_pins-requires : goal.lay_all_pins-requires
lay_all_pins-requires c =
    let held = c.requires.0 in
    (pins_held _ _ _ _ _ _ held, bare_long _ _ _ _ _ _ held (count-zeroed _ c.vertices-count.ensures c.zero_codes.ensures))

pub route_nets-routed-requires : goal.route_nets-routed-requires
route_nets-routed-requires c =
    let laid = c.lay_all_pins.ensures in
    let pre = c.requires in (
      nets_held _ _ _ _ _ _ pre.0 (count-zeroed _ c.vertices-count.ensures c.zero_codes.ensures) laid.kept laid.codes,
      pre.1,
    )

pub put_obstacles-requires : goal.put_obstacles-requires
put_obstacles-requires c =
    let pre = c.requires in
    let count = c.vertices-count.ensures in
    rw count (
      pre.0.fits.sized.vertices,
      routed_long _ _ _ _ _ _ pre.0 (count-zeroed _ count c.zero_codes.ensures) c.lay_all_pins.ensures.kept _ _ c.route_nets-routed.ensures.answer,
    )

pub returns : goal.returns
returns c =
    let held = c.requires.0 in
    let count = c.vertices-count.ensures in
    let zeros = count-zeroed _ count c.zero_codes.ensures in
    let kept = c.lay_all_pins.ensures.kept in
    let record { answer = routed; fits = fits; work = work } = c.route_nets-routed.ensures in
    record {
      answer = routed_answer _ _ _ _ _ _ held zeros kept _ _ routed;
      fits = fits.reach;
      map = routed-map _ _ _ _ _ _ held zeros kept _ _ routed count c.put_obstacles.ensures;
      plan = routed_plan _ _ _ _ _ _ held zeros kept _ _ routed;
      work = work;
    }
