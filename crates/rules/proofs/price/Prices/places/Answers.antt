-- `rules::price::Prices::places` meets its contract: at most 16 pairs for each of at most 16,384 vertices.
use Prim.Native.Nat.{◌+◌, ◌*◌, ◌≤◌}
use mathlib.Core.Path.{refl}
use native.Mathlib.Omega.{arith}
use Rattle.job.proofs.Sizes.{product_within}
use Rattle.rules.specs.Joins.{places}
use Rattle.rules.specs.Structs.{tech_by}
use Rattle.rules.proofs.Techs.{largest_small}
use Rattle.rules.proofs.price.Prices.places.Goals as goal

pub vertices-requires : goal.vertices-requires
vertices-requires c = c.args.self.now.fits.sized.small

pub overflow_mul-result : goal.overflow_mul-result
overflow_mul-result c = omega (arith, c.vertices.ensures, c.args.self.now.fits.sized.vertices)

pub overflow_add-result : goal.overflow_add-result
overflow_add-result c = let fits = c.args.self.now.fits in omega (arith, fits.largest, largest_small fits.good)

pub overflow_mul-result-2 : goal.overflow_mul-result-2
overflow_mul-result-2 c =
    let fits = c.args.self.now.fits in
    let vertices : c.vertices.result * 2 ≤ 32768 = omega (arith, c.vertices.ensures, fits.sized.vertices) in
    let lengths : c.args.self.now.tech.largest + 1 ≤ 16 = omega (arith, fits.largest, largest_small fits.good) in
    omega (arith, product_within 32768 16 vertices lengths)

pub returns : goal.returns
unfolding places tech_by
returns c = rw (c.vertices.ensures, c.args.self.now.fits.largest) refl
