-- Bytes made in order of the vertices' numbers.
--     MadeTo, made_begin, made_turn, made_end     the loop over the vertices: before a turn, before the
--                                                 first, a turn, after the last
use Prim.Native.Nat.{ℕ, ◌+◌, ◌≤◌, ◌<◌}
use mathlib.Core.Path.{◌≡◌, refl, ◌∙◌}
use mathlib.Core.List.{List}
use native.Mathlib.Decide.{dec_lt}
use native.Mathlib.Omega.{arith}
use lib.ListN.{length, get_or, set, length-set}
use lib.Seq.{get_or-set_same, get_or-set_other}

module _ (byte_of : ℕ → ℕ) where
  -- before a turn: the vertices below have their bytes
  pub record MadeTo (found seen : List ℕ) (v : ℕ) : Type 0 where
    pub size : length seen ≡ length found
    pub below : (w : ℕ) → w < v → get_or seen w 0 ≡ byte_of w

  -- before the first turn
  pub made_begin : (found : List ℕ) → MadeTo found found 0
  made_begin found = record { size = refl; below = λ w h. absurd (omega (arith, h)) }

  module _ {found seen : List ℕ} {v : ℕ} (so_far : MadeTo found seen v) where
    -- a turn stores the byte of the next vertex
    pub made_turn : {byte : ℕ} → v < length found → byte ≡ byte_of v → MadeTo found (set seen v byte) (v + 1)
    made_turn {byte} on is = record { size = length-set seen v byte ∙ so_far.size; below = below }
      where
        below : (w : ℕ) → w < v + 1 → get_or (set seen v byte) w 0 ≡ byte_of w
        below w h = by (dec_lt w v)
          where
            by : Dec (w < v) → get_or (set seen v byte) w 0 ≡ byte_of w
            by (yes lower) = get_or-set_other seen v w byte 0 (λ e. omega (arith, e)) ∙ so_far.below w lower
            by (no last) =
                let same : w ≡ v = omega arith in
                let there : v < length seen = omega (arith, so_far.size) in
                rw same (get_or-set_same seen v byte 0 there ∙ is)

    -- after the last turn every vertex has its byte
    pub made_end : {count : ℕ} → count ≤ v → (w : ℕ) → w < count → get_or seen w 0 ≡ byte_of w
    made_end done w h = so_far.below w (omega arith)
