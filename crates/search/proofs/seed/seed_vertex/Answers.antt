-- `search::seed::seed_vertex` meets its contract.
use mathlib.Core.Path.{refl}
use native.Mathlib.Omega.{arith}
use Rattle.rules.specs.Structs.{tech_by}
use Rattle.rules.proofs.Held.{in_array}
use Rattle.search.proofs.Asking.{start_asked, start_made, start_below, start_left}
use Rattle.search.proofs.Costing.{told_small}
use Rattle.search.proofs.seed.seed_vertex.Goals as goal

pub bounds-spots-vertex : goal.bounds-spots-vertex
bounds-spots-vertex c = in_array c.args.prices.now.fits c.requires.1

pub returns-then-spots-vertex-ne-ON_TREE : goal.returns-then-spots-vertex-ne-ON_TREE
returns-then-spots-vertex-ne-ON_TREE c = record {
  off = λ off. (refl, refl);
  on = λ on. absurd (c.if-spots-vertex-ne-ON_TREE.true on);
}

pub code_of-code-requires : goal.code_of-code-requires
code_of-code-requires c = start_asked c.args.prices.now.fits c.requires.1

pub at-requires : goal.at-requires
at-requires c = record { small = c.args.prices.now.fits.sized.small; there = c.requires.1 }

pub lower-requires : goal.lower-requires
unfolding tech_by
lower-requires c =
    let pre = c.requires in
    let below = start_below c.args.prices.now.fits pre.1 c.code_of-code.ensures in
    (rw c.places.ensures pre.0, rw c.places.ensures below, omega (arith, told_small _ _ _ c.args.bounds.now.small c.at.ensures))

pub returns : goal.returns
returns c =
    let fits = c.args.prices.now.fits in
    let pre = c.requires in
    let left = start_left fits pre.1 c.args.bounds.now.entries c.at.ensures in
    let made = start_made fits pre.1 c.code_of-code.ensures in
    record {
      off = λ off. absurd (off c.if-spots-vertex-ne-ON_TREE.false);
      on = λ on. rw (← left, ← made, ← c.places.ensures) c.lower.ensures;
    }
