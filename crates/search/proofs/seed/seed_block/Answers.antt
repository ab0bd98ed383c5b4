-- `search::seed::seed_block` meets its contract.
use native.Mathlib.Omega.{arith}
use Rattle.rules.specs.Structs.{tech_by}
use Rattle.search.proofs.Seeding.{blocked_begun, blocked_on, blocked_long, blocked_done, seeding_skip}
use Rattle.search.proofs.seed.seed_block.Goals as goal

pub some_in-requires : goal.some_in-requires
some_in-requires c = c.requires.0

pub returns-then-not-some_in : goal.returns-then-not-some_in
unfolding tech_by
returns-then-not-some_in c =
    let pre = c.requires in
    λ found so_far. seeding_skip _ _ _ _ _ so_far pre.3 (λ u low high. c.some_in.ensures c.if-not-some_in.true u low (omega (arith, pre.2)))

pub loop-vertex-init : goal.loop-vertex-init
loop-vertex-init c = let pre = c.requires in blocked_begun _ _ _ _ _ _ _ pre.4 pre.1

pub seed_vertex-size-requires : goal.seed_vertex-size-requires
unfolding tech_by
seed_vertex-size-requires c =
    let inv = c.loop-vertex.invariant in
    ((inv.turns inv.first.0 inv.first.1).laid.heaped, omega (arith, c.loop-vertex-test.true, c.requires.3))

pub loop-vertex-preserved : goal.loop-vertex-preserved
unfolding tech_by
loop-vertex-preserved c =
    let seeded = c.seed_vertex-size.ensures in
    blocked_on _ _ _ _ _ _ _ c.loop-vertex.invariant c.loop-vertex-test.true c.requires.3 c.args.prices.now.fits.good seeded.off seeded.on

pub shape_of-work : goal.shape_of-work
shape_of-work c = blocked_long _ _ _ _ _ _ _ c.loop-vertex.invariant

pub returns : goal.returns
returns c = blocked_done _ _ _ _ _ _ _ c.loop-vertex.invariant c.loop-vertex-test.false
