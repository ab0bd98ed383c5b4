-- `search::tries::passed_over` meets its contract.
use Prim.Native.Nat.{◌+◌, ◌*◌, ◌≤◌}
use mathlib.Core.Path.{sym, ap, ◌∙◌}
use mathlib.Core.Bool.{true≢false}
use native.Mathlib.Omega.{arith}
use borrow.Author.Tests.{leb-true}
use lib.ListN.{get_or}
use Rattle.heap.specs.Heaps.{key_of}
use Rattle.rules.specs.Structs.{segment_of}
use Rattle.search.proofs.Asking.{settled_fields}
use Rattle.search.proofs.Vias.{fresh_asked, fresh_made, fresh_here, fresh_left, fresh_small}
use Rattle.search.proofs.tries.passed_over.Goals as goal

pub code_of-requires : goal.code_of-requires
unfolding segment_of
code_of-requires c = fresh_asked c.requires.0 _ c.requires.2

pub key_of-key-requires : goal.key_of-key-requires
key_of-key-requires c = let pre = c.requires in fresh_here pre.0 _ pre.2 c.code_of.ensures pre.1

pub returns-then-key-eq0 : goal.returns-then-key-eq0
returns-then-key-eq0 c e = absurd (true≢false (sym e))

pub entered-left-requires : goal.entered-left-requires
entered-left-requires c = (c.args.prices.now.fits.sized.small, settled_fields c.requires.0)

pub overflow_add-result : goal.overflow_add-result
overflow_add-result c =
    let pre = c.requires in
    omega (arith, pre.0.below, pre.3)

pub overflow_mul-result : goal.overflow_mul-result
overflow_mul-result c =
    let pre = c.requires in
    omega (arith, pre.0.below, pre.3)

pub overflow_add-result-2 : goal.overflow_add-result-2
overflow_add-result-2 c =
    let pre = c.requires in
    omega (arith, pre.0.below, pre.3, fresh_small pre.0 _ pre.2 _ c.entered-left.ensures c.args.bounds.now.small)

pub overflow_add-result-3 : goal.overflow_add-result-3
overflow_add-result-3 c =
    let pre = c.requires in
    omega (arith, pre.0.below, pre.3, fresh_small pre.0 _ pre.2 _ c.entered-left.ensures c.args.bounds.now.small)

pub returns : goal.returns
returns c e =
    let args = c.args in
    let read = c.key_of-key in
    let pre = c.requires in
    let code = fresh_made pre.0 _ pre.2 c.code_of.ensures in
    let left = fresh_left pre.0 _ pre.2 _ c.entered-left.ensures in
    let key = read.ensures ∙ ap (λ x. key_of (get_or args.work.now x 0)) code in
    let within : read.result ≤ 16 * (args.settled.distance + args.price) + c.entered-left.result + 1 = leb-true _ _ e in
    record { touched = omega (arith, key, c.if-key-eq0.false); within = omega (arith, key, left, within) }
