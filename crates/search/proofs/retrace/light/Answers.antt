-- `search::retrace::light` meets its contract.
use Rattle.search.proofs.Lighting.{lighting_begun, lighting_on, lighting_done}
use Rattle.search.proofs.retrace.light.Goals as goal

pub loop-number-init : goal.loop-number-init
loop-number-init c = lighting_begun _ _ _ c.requires.3

pub light_one-requires : goal.light_one-requires
light_one-requires c = let pre = c.requires in (pre.0, pre.1, pre.2, c.loop-number.invariant.bytes, c.loop-number-test.true)

pub loop-number-preserved : goal.loop-number-preserved
loop-number-preserved c = let lit = c.light_one.ensures in lighting_on _ _ _ c.loop-number.invariant c.loop-number-test.true lit.lit lit.stays lit.long

pub returns : goal.returns
returns c = let inv = c.loop-number.invariant in
    record {
      lit = lighting_done _ _ _ inv c.loop-number-test.false;
      stays = inv.stays;
      long = inv.bytes;
    }
