-- Vertices found inside the guide along an axis: layer by layer, row by row, column by column.
--     guided_twice              found by one test and then by another
--     FoundTo, found_begin      the loop along an axis: before a turn, before the first
--     found_turn, found_none    a turn, and one that has no vertex to find
--     found_end                 after the last
use Prim.Native.Nat.{ℕ, ◌+◌, ◌≤◌, ◌<◌}
use mathlib.Core.Path.{◌≡◌, refl, ap, ◌∙◌}
use mathlib.Core.List.{List}
use mathlib.Core.Bool.{Bool, true, false, ◌&&◌, ◌||◌}
use native.Mathlib.Decide.{dec_lt, dec_le}
use native.Mathlib.Omega.{arith}
use lib.ListN.{length, get_or}
use lib.Dec.{ltb, eqb}
use borrow.Author.Tests.{lt-ltb, le-ltb, eq-eqb, ne_eqb, eqb-true}
use Rattle.job.specs.Grid.{Grid, Vertex, vertices}
use Rattle.rules.specs.Tracks.{vertex_by}
use Rattle.views.specs.Sight.{guided_byte, GuidedWhere}

-- found by one test and then by another: found by either
pub guided_twice : (a b : Bool) (byte : ℕ) → guided_byte b (guided_byte a byte) ≡ guided_byte (a || b) byte
unfolding guided_byte
guided_twice true true byte = omega arith
guided_twice true false byte = refl
guided_twice false b byte = refl

-- the numbers below one, and that one
below_next : (x k : ℕ) → (ltb x k || eqb x k) ≡ ltb x (k + 1)
below_next x k = by (dec_lt x k) (dec_le x k)
  where
    by : Dec (x < k) → Dec (x ≤ k) → (ltb x k || eqb x k) ≡ ltb x (k + 1)
    by (yes h) d = rw (lt-ltb x k h, lt-ltb x (k + 1) (omega arith)) refl
    by (no h) (yes d) = rw (le-ltb x k (omega arith), lt-ltb x (k + 1) (omega arith)) (eq-eqb x k (omega arith))
    by (no h) (no d) = rw (le-ltb x k (omega arith), le-ltb x (k + 1) (omega arith)) (ne_eqb x k (λ e. omega (arith, e)))

-- either of two things, with a third
either : (p q c : Bool) → ((p && c) || (q && c)) ≡ ((p || q) && c)
either true true true = refl
either true true false = refl
either true false true = refl
either true false false = refl
either false q c = refl

module _ (g : Grid) (axis : Vertex → ℕ) (test : Vertex → Bool) where
  -- before a turn: the vertices at the numbers below are found where the test says so
  pub record FoundTo (found seen : List ℕ) (k : ℕ) : Type 0 where
    pub size : length seen ≡ length found
    pub so_far : GuidedWhere g (λ w. ltb (axis w) k && test w) found seen

  -- before the first turn
  pub found_begin : (found : List ℕ) → FoundTo found found 0
  unfolding guided_byte
  found_begin found = record { size = refl; so_far = λ v on. rw (le-ltb (axis (vertex_by g v)) 0 (omega arith)) refl }

  module _ {found seen : List ℕ} {k : ℕ} (h : FoundTo found seen k) where
    -- a turn finds those at the next number
    pub found_turn : {after : List ℕ} → length after ≡ length seen → GuidedWhere g (λ w. eqb (axis w) k && test w) seen after → FoundTo found after (k + 1)
    found_turn {after} size finds = record { size = size ∙ h.size; so_far = so_far }
      where
        so_far : GuidedWhere g (λ w. ltb (axis w) (k + 1) && test w) found after
        so_far v on =
            let w = vertex_by g v in
            finds v on ∙ ap (guided_byte (eqb (axis w) k && test w)) (h.so_far v on) ∙ guided_twice (ltb (axis w) k && test w) (eqb (axis w) k && test w) (get_or found v 0)
            ∙ ap (λ (p : Bool). guided_byte p (get_or found v 0)) (either (ltb (axis w) k) (eqb (axis w) k) (test w) ∙ ap (λ (p : Bool). p && test w) (below_next (axis w) k))

    -- or there is none to find
    pub found_none : ((w : Vertex) → axis w ≡ k → test w ≡ false) → FoundTo found seen (k + 1)
    unfolding guided_byte
    found_none none = found_turn refl (λ v on. by (vertex_by g v) (get_or seen v 0) (eqb (axis (vertex_by g v)) k) refl)
      where
        by : (w : Vertex) (byte : ℕ) (b : Bool) → eqb (axis w) k ≡ b → byte ≡ guided_byte (b && test w) byte
        by w byte true e = rw (none w (eqb-true (axis w) k e)) refl
        by w byte false e = refl

    -- after the last turn all are found
    pub found_end : ((v : ℕ) → v < vertices g → axis (vertex_by g v) < k) → GuidedWhere g test found seen
    found_end done v on = rw (lt-ltb (axis (vertex_by g v)) k (done v on)) at (h.so_far v on)
