-- Loading a net's pins and boxes: what stands at a bit, and what is stored, then the rest, is the whole.
--     present                                            an answer that is something
--     vertex_whole, box_whole, net_whole                 a group whose bits are there is whole
--     vertex_told, box_told                              a group that is answered is the one that stands
--                                                        there
--     vertex_fields_lem                                  the numbers of a vertex lie in their fields' ranges
--     net_head_there, NetThere, net_there                the head of a net, with all that it counts
--     sets_append                                        storing two runs is storing the first, and the
--                                                        second behind it
--     PinsToLoad, pins_begin, pins_turn, pins_end        the loop over the pins: before the first turn, a
--                                                        turn, after the last
--     BoxesToLoad, boxes_begin, boxes_turn, boxes_end    the loop over the boxes
use Prim.Native.Nat.{ℕ, suc, ◌+◌, ◌-◌, ◌*◌, ◌≤◌, ◌<◌}
use mathlib.Core.Path.{◌≡◌, refl, sym, ◌∙◌}
use mathlib.Core.List.{List, [], ◌∷◌, ◌++◌}
use native.Mathlib.Numerals.{add-one}
use native.Mathlib.Omega.{arith}
use native.Mathlib.Nat.{add-zero}
use borrow.Author.Tests.{le-leb}
use lib.ListN.{length, set}
use lib.Seq.{sets}
use Rattle.std.specs.Prelude.{Option, Some, IsSome}
use Rattle.bits.specs.Bits.{bits_of, field, whole}
use Rattle.bits.proofs.Laws.{length-bits_of, bits_of_bits, field_below}
use Rattle.job.specs.Grid.{Grid, vertex_number}
use Rattle.job.specs.Reading.{vertex_at, box_at}
use Rattle.job.specs.Structs.{InFields, vertex_of, vertex_struct, box_of, box_struct, vertex_group, net_group, box_group}
use Rattle.reader.specs.Loading.{pin_numbers, box_numbers, boxes_numbers, NetRoom, net_loaded}
use Rattle.job.specs.declared.grid.Vertex.{Vertex as VertexStruct}
use Rattle.job.specs.declared.groups.NetHead.{NetHead}
use Rattle.job.specs.declared.groups.Box.{Box as BoxStruct}

-- ---- groups whose bits are there

-- the head of a net that stands at a bit, with all that it counts
pub record NetThere (bytes : List ℕ) (at : ℕ) (net : NetHead) : Type 0 where
  pub pins : net.pins ≤ 16
  pub boxes : net.boxes < 16
  pub end : at + 8 + 19 * net.pins + 38 * net.boxes ≤ 8 * length bytes
  pub loaded : net_loaded (bits_of bytes) at ≡ record { pins = net.pins; boxes = net.boxes; next = at + 8 + 19 * net.pins + 38 * net.boxes }

-- an answer that is something
pub present : {A : Type 0} (r : Option A) {a : A} → r ≡ Some a → IsSome r
present r e = rw e refl

module _ (bytes : List ℕ) (at : ℕ) where
  -- a vertex whose bits are there is whole
  pub vertex_whole : at + 19 ≤ 8 * length bytes → vertex_group bytes at ≡ Some (vertex_struct (vertex_at (bits_of bytes) at))
  unfolding vertex_group whole
  vertex_whole there = rw (le-leb (at + 19) (length (bits_of bytes)) (omega (arith, length-bits_of bytes)))

  -- a vertex that is answered is the one that stands there
  pub vertex_told : {r : Option VertexStruct} {v : VertexStruct} → at + 19 ≤ 8 * length bytes → r ≡ vertex_group bytes at → r ≡ Some v
      → v ≡ vertex_struct (vertex_at (bits_of bytes) at)
  vertex_told there answer is = let e = vertex_whole there in cc

  -- the numbers of the vertex that stands there lie in their fields' ranges
  pub vertex_fields_lem : InFields (vertex_struct (vertex_at (bits_of bytes) at))
  unfolding vertex_at
  vertex_fields_lem =
      let bits = bits_of_bits bytes in
      record {
        layer = field_below (bits_of bytes) at 3 bits;
        row = field_below (bits_of bytes) (at + 3) 8 bits;
        column = field_below (bits_of bytes) (at + 11) 8 bits;
      }

  -- a box whose bits are there is whole
  pub box_whole : at + 38 ≤ 8 * length bytes → box_group bytes at ≡ Some (box_struct (box_at (bits_of bytes) at))
  unfolding box_group whole
  box_whole there = rw (le-leb (at + 38) (length (bits_of bytes)) (omega (arith, length-bits_of bytes)))

  -- a box that is answered is the one that stands there
  pub box_told : {r : Option BoxStruct} {b : BoxStruct} → at + 38 ≤ 8 * length bytes → r ≡ box_group bytes at → r ≡ Some b
      → b ≡ box_struct (box_at (bits_of bytes) at)
  box_told there answer is = let e = box_whole there in cc

  -- where a net has room, its head is there
  pub net_head_there : NetRoom (bits_of bytes) at → at + 8 ≤ 8 * length bytes
  unfolding NetRoom net_loaded
  net_head_there room = omega (arith, length-bits_of bytes)

  -- the head of a net whose bits are there is whole
  pub net_whole : NetRoom (bits_of bytes) at
      → net_group bytes at ≡ Some (record { pins = suc (field (bits_of bytes) at 4); boxes = field (bits_of bytes) (at + 4) 4 })
  unfolding net_group whole
  net_whole room = rw (le-leb (at + 8) (length (bits_of bytes)) (omega (arith, length-bits_of bytes, net_head_there room)))

  -- all that the head counts is there
  pub net_there : {net : NetHead} → NetRoom (bits_of bytes) at → net_group bytes at ≡ Some net → NetThere bytes at net
  unfolding NetRoom net_loaded
  net_there {net = net} room is =
      let e = net_whole room in
      let here : net ≡ record { pins = suc (field (bits_of bytes) at 4); boxes = field (bits_of bytes) (at + 4) 4 } = cc in
      let bits = bits_of_bits bytes in
      rw here (record {
        pins = omega (arith, field_below (bits_of bytes) at 4 bits);
        boxes = field_below (bits_of bytes) (at + 4) 4 bits;
        end = omega (arith, length-bits_of bytes);
        loaded = refl;
      })

-- storing two runs is storing the first, and the second behind it
pub sets_append : (l : List ℕ) (i : ℕ) (xs ys : List ℕ) → sets l i (xs ++ ys) ≡ sets (sets l i xs) (i + length xs) ys
sets_append l i [] ys = rw add-zero
sets_append l i (x ∷ xs) ys =
    let position : suc i + length xs ≡ i + suc (length xs) = omega arith in
    rw position at (sets_append (set l i x) (suc i) xs ys)

-- ---- the pins

-- before a turn: so many pins are stored, and storing the rest gives all
pub record PinsToLoad (bits : List ℕ) (g : Grid) (count from : ℕ) (first pins : List ℕ) (pin : ℕ) : Type 0 where
  pub stored : sets first 0 (pin_numbers bits g count from) ≡ sets pins pin (pin_numbers bits g (count - pin) (from + 19 * pin))

-- before the first turn no pin is stored
pub pins_begin : (bits : List ℕ) (g : Grid) (count from : ℕ) (pins : List ℕ) → PinsToLoad bits g count from pins pins 0
pins_begin bits g count from pins =
    let all : count - 0 ≡ count = omega arith in
    let here : from + 19 * 0 ≡ from = omega arith in
    record { stored = rw (all, here) }

-- a turn stores the number of the vertex that stands there
pub pins_turn : {bits : List ℕ} {g : Grid} {count from : ℕ} {first pins : List ℕ} {pin : ℕ} → pin < count
    → PinsToLoad bits g count from first pins pin
    → {v : VertexStruct} {number : ℕ} → v ≡ vertex_struct (vertex_at bits (from + 19 * pin)) → number ≡ vertex_number g (vertex_of v)
    → PinsToLoad bits g count from first (set pins pin number) (pin + 1)
unfolding pin_numbers
pins_turn {count = count} {from = from} {pin = pin} more h told numbered =
    let rest : count - pin ≡ suc (count - suc pin) = omega arith in
    let next : from + 19 * suc pin ≡ from + 19 * pin + 19 = omega arith in
    record { stored = rw (numbered, told, add-one, next) (rw rest at h.stored) }

-- after the last turn all pins are stored
pub pins_end : {bits : List ℕ} {g : Grid} {count from : ℕ} {first pins : List ℕ} {pin : ℕ} → count ≤ pin
    → PinsToLoad bits g count from first pins pin → pins ≡ sets first 0 (pin_numbers bits g count from)
unfolding pin_numbers
pins_end {count = count} {pin = pin} done h = let none : count - pin ≡ 0 = omega arith in sym (rw none at h.stored)

-- ---- the boxes

-- before a turn: so many boxes are stored, and storing the rest gives all
pub record BoxesToLoad (bits : List ℕ) (count from : ℕ) (start boxes : List ℕ) (done : ℕ) : Type 0 where
  pub stored : sets start 0 (boxes_numbers bits count from) ≡ sets boxes (6 * done) (boxes_numbers bits (count - done) (from + 38 * done))

-- before the first turn no box is stored
pub boxes_begin : (bits : List ℕ) (count from : ℕ) (boxes : List ℕ) → BoxesToLoad bits count from boxes boxes 0
boxes_begin bits count from boxes =
    let all : count - 0 ≡ count = omega arith in
    let here : from + 38 * 0 ≡ from = omega arith in
    record { stored = rw (all, here) }

-- a turn stores the six numbers of the box that stands there
pub boxes_turn : {bits : List ℕ} {count from : ℕ} {start boxes : List ℕ} {done : ℕ} → done < count
    → BoxesToLoad bits count from start boxes done
    → {b : BoxStruct} {after : List ℕ} → b ≡ box_struct (box_at bits (from + 38 * done)) → after ≡ sets boxes (6 * done) (box_numbers (box_of b))
    → BoxesToLoad bits count from start after (done + 1)
unfolding boxes_numbers box_numbers
boxes_turn {bits} {count} {from} {boxes = boxes} {done} more h told put =
    let rest : count - done ≡ suc (count - (done + 1)) = omega arith in
    let room : 6 * (done + 1) ≡ 6 * done + 6 = omega arith in
    let next : from + 38 * (done + 1) ≡ from + 38 * done + 38 = omega arith in
    record {
      stored = rw (put, told, room, next)
          (rw rest at h.stored
          ∙ sets_append boxes (6 * done) (box_numbers (box_at bits (from + 38 * done))) (boxes_numbers bits (count - (done + 1)) (from + 38 * done + 38)));
    }

-- after the last turn all boxes are stored
pub boxes_end : {bits : List ℕ} {count from : ℕ} {start boxes : List ℕ} {done : ℕ} → count ≤ done
    → BoxesToLoad bits count from start boxes done → boxes ≡ sets start 0 (boxes_numbers bits count from)
unfolding boxes_numbers
boxes_end {count = count} {done = done} all h = let none : count - done ≡ 0 = omega arith in sym (rw none at h.stored)
