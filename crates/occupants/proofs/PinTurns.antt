-- Reading the pins of a net, way out by way out and turn by turn.
--     pin_cut, pin_rules, index_below   one pin
--     PinsLeft and its laws             pins, in a loop
--     pins_end, pins_position           where they end
use Prim.Native.Nat.{ℕ, zero, suc, ◌+◌, ◌-◌, ◌*◌, ◌≤◌, ◌<◌}
use mathlib.Core.Path.{◌≡◌, refl, sym, ◌∙◌}
use mathlib.Core.List.{List}
use mathlib.Core.Bool.{Bool, true, false}
use borrow.Author.Tests.{ne_eqb}
use native.Mathlib.Omega.{arith}
use lib.Dec.{eqb}
use Rattle.std.proofs.Common.{Some, None}
use lib.ListN.{get_or, set}
use Rattle.bits.specs.Bits.{bits_of, whole}
use Rattle.job.specs.Grid.{Grid, inside, vertex_number}
use Rattle.job.specs.Reading.{refused, good, vertex_at}
use Rattle.job.specs.Structs.{Sized, grid_of, vertex_of, vertex_struct, vertex_group}
use Rattle.occupants.specs.Occupants.{reached, stopped, answer_of, occupants_of, and_then, pin_by_occupant, pin_at, pin_from, pins_from}
use Rattle.job.specs.declared.grid.Grid.{Grid as GridStruct}
use Rattle.job.specs.declared.grid.Vertex.{Vertex as VertexStruct}
use Rattle.job.proofs.Grids.{number_below}
use Rattle.occupants.proofs.Answers.{then_at, then_refused, Ends, there, nowhere, ends_either, ends_then, ends_at}

-- ---- one pin

module _ (bytes : List ℕ) (g : Grid) (at : ℕ) (m : List ℕ) where
  -- a pin that is cut is refused by 2
  pub pin_cut : vertex_group bytes at ≡ None → pin_from (bits_of bytes) g at m ≡ stopped 2 at m
  unfolding vertex_group pin_from
  pin_cut e = by (whole (bits_of bytes) at 19) refl
    where
      by : (b : Bool) → whole (bits_of bytes) at 19 ≡ b → pin_from (bits_of bytes) g at m ≡ stopped 2 at m
      by true w = absurd (cc)
      by false w = rw w

  -- the rules of a pin that is whole, by its position and its occupant
  pub record PinRules (v : VertexStruct) : Type 0 where
    pub outside : inside g (vertex_of v) ≡ false → pin_from (bits_of bytes) g at m ≡ stopped 8 at m
    pub blocked : (index : ℕ) → inside g (vertex_of v) ≡ true → index ≡ vertex_number g (vertex_of v) → get_or m index 0 ≡ 1
        → pin_from (bits_of bytes) g at m ≡ stopped 8 at m
    pub taken : (index : ℕ) → inside g (vertex_of v) ≡ true → index ≡ vertex_number g (vertex_of v) → get_or m index 0 ≡ 2
        → pin_from (bits_of bytes) g at m ≡ stopped 9 at m
    pub fine : (index : ℕ) → inside g (vertex_of v) ≡ true → index ≡ vertex_number g (vertex_of v) → (get_or m index 0 ≡ 1 → ⊥)
        → (get_or m index 0 ≡ 2 → ⊥) → pin_from (bits_of bytes) g at m ≡ reached (at + 19) (set m index 2)

  -- a pin that is whole goes by them
  pub pin_rules : (v : VertexStruct) → vertex_group bytes at ≡ Some v → PinRules v
  unfolding vertex_group pin_from pin_at pin_by_occupant
  pin_rules v e = by (whole (bits_of bytes) at 19) refl
    where
      by : (b : Bool) → whole (bits_of bytes) at 19 ≡ b → PinRules v
      by false w = absurd (cc)
      by true w =
          let same : v ≡ vertex_struct (vertex_at (bits_of bytes) at) = cc in
          rw same
          (record {
            outside = λ i. rw (w, i);
            blocked = λ x i n k. rw (w, i, ← n, k);
            taken = λ x i n k. rw (w, i, ← n, k);
            fine = λ x i n k l. rw (w, i, ← n, ne_eqb _ 1 k, ne_eqb _ 2 l);
          })

-- the number of a vertex inside lies in the array
pub index_below : (g : GridStruct) (v : VertexStruct) (index : ℕ) → Sized g → inside (grid_of g) (vertex_of v) ≡ true
    → index ≡ vertex_number (grid_of g) (vertex_of v) → index < 16384
index_below g v index sized i e = let low = number_below (grid_of g) (vertex_of v) (rw i tt) in omega (arith, sized.vertices)

-- a pin takes 19 bits
pin_end : (bits : List ℕ) (g : Grid) (at : ℕ) (m : List ℕ) → Ends (λ end. end ≡ at + 19) (pin_from bits g at m)
unfolding pin_from pin_at pin_by_occupant
pin_end bits g at m =
    let v = vertex_at bits at in
    let index = vertex_number g v in
    let occupant = get_or m index 0 in
    ends_either (whole bits at 19)
    (ends_either (inside g v)
    (ends_either (eqb occupant 1) (nowhere 8 at m) (ends_either (eqb occupant 2) (nowhere 9 at m) (there (at + 19) (set m index 2) refl)))
    (nowhere 8 at m))
    (nowhere 2 at m)

-- ---- pins

-- what is read from here on is what is read from the start
pub record PinsLeft (bits : List ℕ) (g : Grid) (count from : ℕ) (m₀ : List ℕ) (done at : ℕ) (m : List ℕ) : Type 0 where
  pub same : pins_from bits g count from m₀ ≡ pins_from bits g (count - done) at m
  pub ends : at ≡ from + 19 * done

-- at first all are left
pub pins_all : (bits : List ℕ) (g : Grid) (count from : ℕ) (m : List ℕ) → PinsLeft bits g count from m 0 from m
pins_all bits g count from m = let all : count - 0 ≡ count = omega arith in record { same = rw all; ends = omega arith }

-- one pin, then the rest
pins_more : (bits : List ℕ) (g : Grid) (done count at : ℕ) (m : List ℕ) → done < count
    → pins_from bits g (count - done) at m ≡ and_then (pin_from bits g at m) (pins_from bits g (count - (done + 1)))
unfolding pins_from
pins_more bits g done count at m h = let more : count - done ≡ suc (count - (done + 1)) = omega arith in rw more

module _ {bits : List ℕ} {g : Grid} {count from : ℕ} {m₀ : List ℕ} {done at : ℕ} {m : List ℕ}
    (so_far : PinsLeft bits g count from m₀ done at m) where
  -- a pin that was read
  pub pins_next : {m' : List ℕ} {next : ℕ} → done < count → good next ≡ answer_of (pin_from bits g at m) → m' ≡ occupants_of (pin_from bits g at m)
      → PinsLeft bits g count from m₀ (done + 1) next m'
  pins_next {m'} {next} h answer occupants =
      let position = ends_at next (pin_end bits g at m) (sym answer) in
      let old = so_far.ends in
      record {
        same = so_far.same ∙ pins_more bits g done count at m h ∙ then_at _ (pins_from bits g (count - (done + 1))) answer occupants;
        ends = omega arith;
      }

  -- a pin that was refused
  pub pins_refused : {m' : List ℕ} {n p : ℕ} → done < count → refused n p ≡ answer_of (pin_from bits g at m) → m' ≡ occupants_of (pin_from bits g at m)
      → pins_from bits g count from m₀ ≡ stopped n p m'
  pins_refused h answer occupants =
      so_far.same ∙ pins_more bits g done count at m h ∙ then_refused _ (pins_from bits g (count - (done + 1))) answer occupants

  -- no pin is left
  pub pins_done : count ≤ done → pins_from bits g count from m₀ ≡ reached at m
  unfolding pins_from
  pins_done h = let none : count - done ≡ 0 = omega arith in so_far.same ∙ rw none

-- pins take 19 bits each
pub pins_end : (bits : List ℕ) (g : Grid) (n at : ℕ) (m : List ℕ) → Ends (λ end. end ≡ at + 19 * n) (pins_from bits g n at m)
unfolding pins_from
pins_end bits g zero at m = there at m (omega arith)
pins_end bits g (suc n) at m =
    ends_then (pins_from bits g n) (pin_end bits g at m)
    (λ next m' e. let same : next + 19 * n ≡ at + 19 * suc n = omega arith in rw same at (pins_end bits g n next m'))

-- the position after them, as answered
pub pins_position : (bits : List ℕ) (g : Grid) (n at : ℕ) (m : List ℕ) {next : ℕ} → good next ≡ answer_of (pins_from bits g n at m)
    → next ≡ at + 19 * n
pins_position bits g n at m {next} answer = ends_at next (pins_end bits g n at m) (sym answer)
