-- `reader::load::store_box` meets its contract: six positions one after the other, each stored once.
use Prim.Native.Nat.{suc, ◌+◌}
use mathlib.Core.Path.{◌≡◌}
use native.Mathlib.Numerals.{add-one}
use native.Mathlib.Omega.{arith}
use Rattle.reader.specs.Loading.{box_numbers}
use Rattle.reader.proofs.load.store_box.Goals as goal

pub returns : goal.returns
unfolding box_numbers
returns c =
    let first = c.args.first in
    let two : first + 2 ≡ suc (suc first) = omega arith in
    let three : first + 3 ≡ suc (suc (suc first)) = omega arith in
    let four : first + 4 ≡ suc (suc (suc (suc first))) = omega arith in
    let five : first + 5 ≡ suc (suc (suc (suc (suc first)))) = omega arith in
    rw (add-one, two, three, four, five)
