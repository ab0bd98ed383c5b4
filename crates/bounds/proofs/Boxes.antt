-- The box of the unjoined pins, pin by pin.
--     pin_on_grid            a pin is a vertex of the grid
--     InBox, Low             a vertex in a box; a box whose low ends are at most 255
--     box_turn, box_kept     one more pin: an unjoined one, and another
--     box_low, box_holds     the box's low ends are at most 255, and it holds every unjoined one of the pins
use Prim.Native.Nat.{ℕ, zero, suc, ◌+◌, ◌≤◌, ◌<◌}
use mathlib.Core.Path.{◌≡◌, refl}
use mathlib.Core.Logic.{⊎_elim}
use mathlib.Core.List.{List, [], ◌∷◌}
use mathlib.Core.Bool.{Bool, true, false, cond}
use native.Mathlib.Omega.{arith}
use lib.ListN.{length, get_or, take}
use lib.Seq.{take-suc, get_or-take}
use lib.Dec.{eqb}
use borrow.Author.Tests.{eq-eqb, ne_eqb, eqb-false}
use Rattle.job.specs.Grid.{Grid, Vertex, vertices}
use Rattle.job.specs.Structs.{vertex_of, vertex_struct}
use Rattle.job.specs.declared.grid.Vertex.{Vertex as VertexStruct}
use Rattle.bounds.specs.declared.fill.PinSpan.{PinSpan}
use Rattle.bounds.specs.declared.fill.PinBox.{PinBox}
use Rattle.rules.specs.Tracks.{vertex_by}
use Rattle.rules.specs.Views.{member}
use Rattle.rules.proofs.Fitting.{one_more}
use Rattle.rules.proofs.Members.{member_none, member_here, member-append}
use Rattle.rules.proofs.Standing.{all_at}
use Rattle.tree.proofs.Turns.{pin-count}
use Rattle.bounds.specs.Fills.{Among, span_with, box_with, unjoined_box}
use Rattle.bounds.proofs.Axes.{Within}

-- a pin is a vertex of the grid
pub pin_on_grid : (g : Grid) (spots pins : List ℕ) {count i : ℕ} → Among g spots pins count → i < count → get_or pins i 0 < vertices g
pin_on_grid g spots pins {count} {i} among on =
    rw (get_or-take count pins i 0 on) at (all_at (λ v. v < vertices g) (take count pins) i 0 among.on_grid (rw (pin-count among.there) on))

-- ---- one more vertex

-- on each axis
pub record InBox (box : PinBox) (x : Vertex) : Type 0 where
  pub layer : Within box.layers x.layer
  pub row : Within box.rows x.row
  pub column : Within box.columns x.column

-- a span holds what it held
still_within : (span : PinSpan) (at : ℕ) {x : ℕ} → Within span x → Within (span_with span at) x
still_within span at within = record { low = omega (arith, within.low); high = omega (arith, within.high) }

-- and the new coordinate
now_within : (span : PinSpan) (at : ℕ) → Within (span_with span at) at
now_within span at = record { low = omega arith; high = omega arith }

-- a box holds what it held
still_in : (box : PinBox) (y : Vertex) {x : Vertex} → InBox box x → InBox (box_with box y) x
still_in box y in-box =
    record {
      layer = still_within _ y.layer in-box.layer;
      row = still_within _ y.row in-box.row;
      column = still_within _ y.column in-box.column;
    }

-- and the new vertex
now_in : (box : PinBox) (y : Vertex) → InBox (box_with box y) y
now_in box y =
    record {
      layer = now_within box.layers y.layer;
      row = now_within box.rows y.row;
      column = now_within box.columns y.column;
    }

-- no coordinate is more than 255 steps below the box
pub record Low (box : PinBox) : Type 0 where
  pub layers : box.layers.low ≤ 255
  pub rows : box.rows.low ≤ 255
  pub columns : box.columns.low ≤ 255

-- ---- the pins

module _ (g : Grid) (spots pins : List ℕ) where
  module _ (n : ℕ) {pin : ℕ} {before : PinBox} (is : pin ≡ get_or pins n 0) (so_far : before ≡ unjoined_box g spots pins n) where
    -- an unjoined one
    pub box_turn : {box : PinBox} {vertex : VertexStruct} → get_or spots pin 0 ≡ 2 → vertex ≡ vertex_struct (vertex_by g pin)
        → box ≡ box_with before (vertex_of vertex) → box ≡ unjoined_box g spots pins (n + 1)
    unfolding unjoined_box
    box_turn unjoined told wider =
        rw (one_more n, wider, told, ← is, eq-eqb (get_or spots pin 0) 2 unjoined, so_far) refl

    -- another
    pub box_kept : (get_or spots pin 0 ≡ 2 → ⊥) → before ≡ unjoined_box g spots pins (n + 1)
    unfolding unjoined_box
    box_kept joined = rw (one_more n, ← is, ne_eqb (get_or spots pin 0) 2 joined, so_far) refl

  pub box_low : (n : ℕ) → Low (unjoined_box g spots pins n)
  unfolding unjoined_box
  box_low zero = record { layers = omega arith; rows = omega arith; columns = omega arith }
  box_low (suc n) = by (box_low n) (eqb (get_or spots (get_or pins n 0) 0) 2)
    where
      by : Low (unjoined_box g spots pins n) → (b : Bool)
          → Low (cond b (box_with (unjoined_box g spots pins n) (vertex_by g (get_or pins n 0))) (unjoined_box g spots pins n))
      by before true =
          record {
            layers = omega (arith, before.layers);
            rows = omega (arith, before.rows);
            columns = omega (arith, before.columns);
          }
      by before false = before

  -- it holds the unjoined ones
  pub box_holds : (n v : ℕ) → n ≤ length pins → member v (take n pins) ≡ true → get_or spots v 0 ≡ 2
      → InBox (unjoined_box g spots pins n) (vertex_by g v)
  unfolding unjoined_box
  box_holds zero v there in-none unjoined = absurd (member_none v in-none)
  box_holds (suc n) v there in-these unjoined =
      by (λ earlier. box_holds n v (omega (arith, there)) earlier unjoined) (eqb (get_or spots pin 0) 2) refl
    where
      pin : ℕ
      pin = get_or pins n 0

      -- it is the last, or one of those before
      one_of : {P : Type 0} → (member v (take n pins) ≡ true → P) → (v ≡ pin → P) → P
      one_of earlier here =
          ⊎_elim earlier (λ one. here (member_here v pin one)) (member-append v (take n pins) (pin ∷ []) (rw (take-suc pins n 0 there) at in-these))

      by : (member v (take n pins) ≡ true → InBox (unjoined_box g spots pins n) (vertex_by g v)) → (b : Bool) → eqb (get_or spots pin 0) 2 ≡ b
          → InBox (cond b (box_with (unjoined_box g spots pins n) (vertex_by g pin)) (unjoined_box g spots pins n)) (vertex_by g v)
      by so_far true e =
          one_of (λ earlier. still_in _ (vertex_by g pin) (so_far earlier)) (λ here. rw here (now_in (unjoined_box g spots pins n) (vertex_by g pin)))
      by so_far false e = one_of so_far (λ here. absurd (eqb-false (get_or spots pin 0) 2 e (rw here at unjoined)))
