-- `metal::pins::lay_all_pins` meets its contract.
use mathlib.Core.Path.{refl, sym}
use lib.Seq.{length-take-le}
use native.Mathlib.Omega.{arith}
use Rattle.metal.proofs.Nets.{job_fits}
use Rattle.metal.proofs.First.{pins_begun, number_below, pins_here, pins_few, pins_asked, pins_on, pins_done}
use Rattle.metal.proofs.pins.lay_all_pins.Goals as goal

pub loop-before-init : goal.loop-before-init
loop-before-init c = pins_begun c.requires.0 c.requires.1 refl

pub load_net-loaded-requires : goal.load_net-loaded-requires
load_net-loaded-requires c =
    let held = c.requires.0 in
    let fits = job_fits _ _ held.job held.read held.grid in
    (fits.sized.small, fits.short, (pins_here c.loop-before.invariant c.loop-before-test.true).room)

pub slice_bounds-pins-end : goal.slice_bounds-pins-end
slice_bounds-pins-end c = omega (arith, pins_few c.loop-before.invariant c.loop-before-test.true c.load_net-loaded.ensures.counts, c.load_net-loaded.array_long)

pub slice_bounds-lay_pins-end : goal.slice_bounds-lay_pins-end
slice_bounds-lay_pins-end c =
    sym (length-take-le _ _ (omega (arith, pins_few c.loop-before.invariant c.loop-before-test.true c.load_net-loaded.ensures.counts, c.load_net-loaded.array_long)))

pub overflow_cast-before : goal.overflow_cast-before
overflow_cast-before c = omega (arith, number_below c.loop-before.invariant c.loop-before-test.true)

pub lay_pins-requires : goal.lay_pins-requires
lay_pins-requires c = pins_asked c.loop-before.invariant c.loop-before-test.true c.load_net-loaded.ensures.counts c.load_net-loaded.ensures.pins

pub loop-before-preserved : goal.loop-before-preserved
loop-before-preserved c =
    let loaded = c.load_net-loaded.ensures in
    pins_on c.loop-before.invariant c.loop-before-test.true loaded.counts loaded.pins c.lay_pins.ensures

pub shape_of-map : goal.shape_of-map
shape_of-map c = c.loop-before.invariant.kept.size

pub returns : goal.returns
returns c = record {
  kept = c.loop-before.invariant.kept;
  codes = pins_done c.loop-before.invariant c.loop-before-test.false;
}
