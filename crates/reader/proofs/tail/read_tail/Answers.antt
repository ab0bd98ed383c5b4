-- `reader::tail::read_tail` meets its contract: where fewer than eight bits are left, the field of all of
-- them says whether they are zero.
use Prim.Native.Nat.{ℕ, ◌-◌, ◌*◌, ◌≤◌, ◌<◌}
use borrow.Author.Tests.{lt-ltb, le-ltb, eq-eqb, ne_eqb}
use mathlib.Core.List.{List}
use mathlib.Core.Path.{◌≡◌, ap}
use native.Mathlib.Omega.{arith}
use lib.Dec.{eqb}
use lib.ListN.{length, drop, length-drop}
use lib.Seq.{take_all}
use Rattle.bits.specs.Bits.{bits_of, field, number}
use Rattle.bits.specs.declared.FieldRead.{FieldRead}
use Rattle.bits.proofs.Laws.{length-bits_of}
use Rattle.job.specs.Reading.{read_tail, ◌>>◌, rule, refused}
use Rattle.occupants.specs.Structs.{many_reached}
use Rattle.reader.proofs.tail.read_tail.Goals as goal

-- eight bits or more are left: the tail is refused
long : (bytes : List ℕ) (at : ℕ) → 8 ≤ length bytes * 8 - at → read_tail (bits_of bytes) at ≡ refused 11 at
unfolding read_tail rule
long bytes at h = rw (le-ltb (length (bits_of bytes) - at) 8 (omega (arith, length-bits_of bytes)))

-- fewer are left: the number in the field of all of them decides
short : (bytes : List ℕ) (at : ℕ) → length bytes * 8 - at < 8
    → read_tail (bits_of bytes) at ≡ rule 11 at (eqb (field (bits_of bytes) at (length bytes * 8 - at)) 0)
unfolding read_tail field
short bytes at h =
    rw (
      lt-ltb (length (bits_of bytes) - at) 8 (omega (arith, length-bits_of bytes)),
      take_all (length bytes * 8 - at) (drop at (bits_of bytes)) (omega (arith, length-drop at (bits_of bytes), length-bits_of bytes)),
    )

pub returns-then-end-at : goal.returns-then-end-at
unfolding rule many_reached ◌>>◌ field number
returns-then-end-at c =
    let a = c.args in
    let none : length a.s.now * 8 - a.at ≡ 0 = omega arith in
    rw (short a.s.now a.at (omega arith), none)

pub returns-then-left-ge-BYTE : goal.returns-then-left-ge-BYTE
unfolding many_reached ◌>>◌
returns-then-left-ge-BYTE c = rw (c.at.ensures, long _ _ c.if-left-ge-BYTE.true)

pub returns-then-tail-ne0 : goal.returns-then-tail-ne0
unfolding rule many_reached ◌>>◌
returns-then-tail-ne0 c =
    let value = ap (λ (t : FieldRead). t.value) c.field-tail.ensures in
    rw (c.at-then-tail-ne0.ensures, short _ _ c.if-left-ge-BYTE.false, ← value, ne_eqb _ _ c.if-tail-ne0.true)

pub returns : goal.returns
unfolding rule many_reached ◌>>◌
returns c =
    let value = ap (λ (t : FieldRead). t.value) c.field-tail.ensures in
    rw (short _ _ c.if-left-ge-BYTE.false, ← value, eq-eqb _ _ c.if-tail-ne0.false)
