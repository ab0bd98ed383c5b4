-- `metal::codes::put_obstacles` meets its contract.
use Prim.Native.Nat.{◌<◌}
use native.Mathlib.Omega.{arith}
use lib.Seq.{length-take-le, get_or-take}
use Rattle.metal.proofs.Turns.{putting_begun, putting_on, putting_past, putting_done}
use Rattle.metal.proofs.codes.put_obstacles.Goals as goal
use Rattle.metal.proofs.codes.put_obstacles.Goals.{then-occupant-eq-OBSTACLE, else-occupant-eq-OBSTACLE}

pub loop-v-init : goal.loop-v-init
loop-v-init c = putting_begun _ _ _ c.requires.1

pub loop-v-preserved : goal.loop-v-preserved
loop-v-preserved c =
    let so_far = c.loop-v.invariant in
    let vertices = length-take-le c.args.count c.args.occupants.now (omega (arith, c.requires.0)) in
    let more : c.loop-v.v < c.args.count = omega (arith, c.loop-v-test.true, vertices) in
    let same = get_or-take c.args.count c.args.occupants.now c.loop-v.v 0 more in
    elim c.if-occupant-eq-OBSTACLE.branch [
      | then-occupant-eq-OBSTACLE w ↦ rw w.map-is (putting_on so_far more (rw same at w.if-occupant-eq-OBSTACLE.true))
      | else-occupant-eq-OBSTACLE w ↦ rw w.map-is (putting_past so_far more (rw same at w.if-occupant-eq-OBSTACLE.false))
    ]

pub shape_of-map : goal.shape_of-map
shape_of-map c = c.loop-v.invariant.size

pub returns : goal.returns
returns c = putting_done c.loop-v.invariant (omega (arith, c.loop-v-test.false, length-take-le c.args.count c.args.occupants.now (omega (arith, c.requires.0))))
