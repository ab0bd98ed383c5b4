-- The guide, box by box.
--     guide_all                                         the byte of a vertex, from one that says only whether
--                                                       there are boxes
--     BoxesLeft, guide_begin, guide_turn, guide_end     the loop over the boxes: before a turn, before the
--                                                       first, a turn, after the last
use Prim.Native.Nat.{ℕ, zero, suc, ◌+◌, ◌-◌, ◌*◌, ◌≤◌, ◌<◌}
use mathlib.Core.Path.{◌≡◌, refl, sym, ap, ◌∙◌}
use mathlib.Core.List.{List}
use mathlib.Core.Bool.{Bool, true, false, ◌||◌, not}
use native.Mathlib.Omega.{arith}
use lib.ListN.{length, get_or}
use lib.Dec.{eqb}
use borrow.Author.Tests.{ne_eqb}
use Rattle.job.specs.Lists.{any}
use Rattle.job.specs.Grid.{Grid, Vertex, vertices}
use Rattle.job.specs.Structs.{box_of, box_struct}
use Rattle.job.specs.declared.groups.Box.{Box as BoxStruct}
use Rattle.rules.specs.Tracks.{vertex_by}
use Rattle.rules.specs.Views.{in_box, in_guide}
use Rattle.views.specs.Sight.{box_in, boxes_in, seen_byte, guided_byte, GuidedWhere, sight_of}
use Rattle.views.proofs.Axes.{guided_twice}

-- the flag of the outside, taken off where it stands
guided_flag : (b t : Bool) (found : Bool) → guided_byte found (seen_byte b t true) ≡ seen_byte b t (not found)
unfolding guided_byte seen_byte
guided_flag b t false = refl
guided_flag true true true = refl
guided_flag true false true = refl
guided_flag false true true = refl
guided_flag false false true = refl

-- the guide, from a byte that says only whether there are boxes
guide_all : (numbers : List ℕ) (b t : Bool) (w : Vertex) (n : ℕ)
    → guided_byte (any (in_box w) (boxes_in numbers (6 * 0) (n - 0))) (seen_byte b t (not (eqb n 0))) ≡ seen_byte b t (not (in_guide (boxes_in numbers 0 n) w))
unfolding in_guide boxes_in any guided_byte
guide_all numbers b t w zero = refl
guide_all numbers b t w (suc n) =
    let all : suc n - 0 ≡ suc n = omega arith in
    rw (all, ne_eqb (suc n) 0 (λ e. omega (arith, e))) (guided_flag b t (any (in_box w) (boxes_in numbers 0 (suc n))))

module _ (g : Grid) (occupants codes numbers : List ℕ) (n : ℕ) where
  -- before a turn: the boxes that are left make the bytes whole
  pub record BoxesLeft (found seen : List ℕ) (i : ℕ) : Type 0 where
    pub size : length seen ≡ length found
    pub left : (v : ℕ) → v < vertices g
        → guided_byte (any (in_box (vertex_by g v)) (boxes_in numbers (6 * i) (n - i))) (get_or seen v 0) ≡ sight_of g occupants codes (boxes_in numbers 0 n) v

  -- before the first turn: the bytes tell of the occupants and the codes
  pub guide_begin : {found : List ℕ}
      → ((v : ℕ) → v < vertices g → get_or found v 0 ≡ seen_byte (not (eqb (get_or occupants v 0) 0)) (not (eqb (get_or codes v 0) 0)) (not (eqb n 0)))
      → BoxesLeft found found 0
  unfolding sight_of
  guide_begin made =
      record {
        size = refl;
        left = λ v on. ap (guided_byte _) (made v on) ∙ guide_all numbers (not (eqb (get_or occupants v 0) 0)) (not (eqb (get_or codes v 0) 0)) (vertex_by g v) n;
      }

  module _ {found seen : List ℕ} {i : ℕ} (h : BoxesLeft found seen i) where
    -- one box and those after it
    guide_next : i < n → (w : Vertex)
        → any (in_box w) (boxes_in numbers (6 * i) (n - i)) ≡ (in_box w (box_in numbers (6 * i)) || any (in_box w) (boxes_in numbers (6 * (i + 1)) (n - (i + 1))))
    unfolding boxes_in any
    guide_next more w =
        let some : n - i ≡ suc (n - (i + 1)) = omega arith in
        let position : 6 * i + 6 ≡ 6 * (i + 1) = omega arith in
        rw (some, position) refl

    -- a turn finds the vertices of the next box
    pub guide_turn : {b : BoxStruct} {after : List ℕ} → i < n → b ≡ box_struct (box_in numbers (6 * i)) → length after ≡ length seen
        → GuidedWhere g (λ w. in_box w (box_of b)) seen after → BoxesLeft found after (i + 1)
    guide_turn {b} {after} more read size finds = record { size = size ∙ h.size; left = left }
      where
        left : (v : ℕ) → v < vertices g
            → guided_byte (any (in_box (vertex_by g v)) (boxes_in numbers (6 * (i + 1)) (n - (i + 1)))) (get_or after v 0)
            ≡ sight_of g occupants codes (boxes_in numbers 0 n) v
        left v on =
            ap (guided_byte _) (finds v on ∙ ap (λ (x : BoxStruct). guided_byte (in_box (vertex_by g v) (box_of x)) (get_or seen v 0)) read)
            ∙ guided_twice _ _ (get_or seen v 0) ∙ ap (λ (p : Bool). guided_byte p (get_or seen v 0)) (sym (guide_next more (vertex_by g v))) ∙ h.left v on

    -- after the last turn every vertex has its byte
    pub guide_end : n ≤ i → (v : ℕ) → v < vertices g → get_or seen v 0 ≡ sight_of g occupants codes (boxes_in numbers 0 n) v
    unfolding boxes_in any guided_byte
    guide_end done v on = let none : n - i ≡ 0 = omega arith in rw none at (h.left v on)
