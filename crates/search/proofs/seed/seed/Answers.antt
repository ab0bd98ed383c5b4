-- `search::seed::seed` meets its contract.
use Prim.Native.Nat.{◌+◌, min}
use mathlib.Core.Path.{◌≡◌}
use native.Mathlib.Omega.{arith}
use Rattle.rules.specs.Structs.{tech_by}
use Rattle.search.proofs.Seeding.{seeding_begun, seeding_done, block_asked}
use Rattle.search.proofs.seed.seed.Goals as goal

pub vertices-count-requires : goal.vertices-count-requires
vertices-count-requires c = c.args.prices.now.fits.sized.small

pub loop-from-init : goal.loop-from-init
loop-from-init c =
    let none : min 0 c.vertices-count.result ≡ 0 = omega arith in
    (rw none (seeding_begun _ _ _ _ c.args.prices.now.fits.good c.requires.room c.requires.bare), omega arith)

pub block_end-to-requires : goal.block_end-to-requires
block_end-to-requires c = omega (arith, c.loop-from-test.true, c.vertices-count.ensures, c.args.prices.now.fits.sized.vertices)

pub seed_block-size-requires : goal.seed_block-size-requires
unfolding tech_by
seed_block-size-requires c =
    let inv = c.loop-from.invariant in
    let more = c.loop-from-test.true in
    let here : min c.loop-from.from c.vertices-count.result ≡ c.loop-from.from = omega (arith, more) in
    let (room, from, to, below) = block_asked c.vertices-count.ensures more inv.1 c.args.prices.now.fits.sized.vertices c.block_end-to.ensures in
    (room, from, to, below, (_, rw here at inv.0))

pub loop-from-smaller : goal.loop-from-smaller
loop-from-smaller c = omega (arith, c.loop-from-test.true, c.block_end-to.ensures)

pub loop-from-preserved : goal.loop-from-preserved
loop-from-preserved c =
    let inv = c.loop-from.invariant in
    let here : min c.loop-from.from c.vertices-count.result ≡ c.loop-from.from = omega (arith, c.loop-from-test.true) in
    let end : min (c.loop-from.from + 128) c.vertices-count.result ≡ c.block_end-to.result = omega (arith, c.block_end-to.ensures) in
    (rw end (c.seed_block-size.ensures _ (rw here at inv.0)), omega (arith, inv.1))

pub returns : goal.returns
unfolding tech_by
returns c =
    let all = seeding_done _ _ _ _ c.loop-from.invariant.0 (omega (arith, c.loop-from-test.false, c.vertices-count.ensures)) in
    record { laid = all.0; seeded = all.1.0; kept = all.1.1 }
