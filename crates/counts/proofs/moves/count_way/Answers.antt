-- `counts::moves::count_way` meets its contract: up, down, or along.
use native.Mathlib.Omega.{arith}
use borrow.Author.Tests.{lt-ltb, le-ltb}
use Rattle.std.proofs.lemmas.Cmp.{ranked}
use Rattle.counts.specs.Counts.{way_count}
use Rattle.counts.proofs.moves.count_way.Goals as goal

pub returns-in-Less : goal.returns-in-Less
unfolding way_count
returns-in-Less c =
    let below = rw c.in-Less.is at (ranked c.args.left c.args.entered c.cmp.result c.cmp.ensures) in
    rw (lt-ltb _ _ below) c.add_count.ensures

pub returns-in-Greater : goal.returns-in-Greater
unfolding way_count
returns-in-Greater c =
    let above = rw c.in-Greater.is at (ranked c.args.left c.args.entered c.cmp.result c.cmp.ensures) in
    rw (le-ltb c.args.left c.args.entered (omega (arith, above)), lt-ltb _ _ above) c.add_count-in-Greater.ensures

pub returns-in-Equal : goal.returns-in-Equal
unfolding way_count
returns-in-Equal c =
    let same = rw c.in-Equal.is at (ranked c.args.left c.args.entered c.cmp.result c.cmp.ensures) in
    rw (le-ltb c.args.left c.args.entered (omega (arith, same)), le-ltb c.args.entered c.args.left (omega (arith, same))) c.add_count-in-Equal.ensures
