-- Obstacles, nets and tail one after the other, way out by way out.
--     obstacles_end, nets_end                          where the obstacles and the nets end
--     groups_blocked, groups_stopped, groups_through   the obstacles are refused, the nets are, or the tail
--                                                      is read
use Prim.Native.Nat.{ℕ, zero, suc, ◌+◌, ◌*◌, ◌≤◌}
use mathlib.Core.Path.{◌≡◌, sym, ap, ◌∙◌}
use mathlib.Core.List.{List}
use native.Mathlib.Omega.{arith}
use Rattle.bits.specs.Bits.{bits_of}
use Rattle.job.specs.Grid.{Grid}
use Rattle.job.specs.Job.{Obstacle}
use Rattle.job.specs.Reading.{Read, refused, good, Head, obstacles_at, read_obstacle, read_tail}
use Rattle.occupants.specs.Structs.{many_reached}
use Rattle.occupants.specs.Occupants.{stopped, answer_of, occupants_of, with_occupants, cover_read, obstacles_from, nets_from, groups_from}
use Rattle.occupants.proofs.Answers.{then_at, then_refused, Ends, there, nowhere, ends_then, ends_weaker}
use Rattle.occupants.proofs.NetTurns.{net_end}

-- an obstacle takes 27 bits
obstacle_end : (g : Grid) (at : ℕ) (m : List ℕ) (r : Read Obstacle) → Ends (λ end. end ≡ at + 27) (cover_read g at m r)
unfolding cover_read
obstacle_end g at m (refused n p) = nowhere n p m
obstacle_end g at m (good o) = there (at + 27) _ (omega arith)

-- obstacles take 27 bits each
pub obstacles_end : (bits : List ℕ) (g : Grid) (n at : ℕ) (m : List ℕ) → Ends (λ end. end ≡ at + 27 * n) (obstacles_from bits g n at m)
unfolding obstacles_from
obstacles_end bits g zero at m = there at m (omega arith)
obstacles_end bits g (suc n) at m =
    ends_then (obstacles_from bits g n) (obstacle_end g at m (read_obstacle bits g 0 at))
    (λ end m' e. ends_weaker (obstacles_end bits g n end m') (λ last h. omega arith))

-- nets take at most 882 bits each
pub nets_end : (bytes : List ℕ) (g : Grid) (n at : ℕ) (m : List ℕ) → Ends (λ end. end ≤ at + 882 * n) (nets_from (bits_of bytes) g n at m)
unfolding nets_from
nets_end bytes g zero at m = there at m (omega arith)
nets_end bytes g (suc n) at m =
    ends_then (nets_from (bits_of bytes) g n) (net_end bytes g at m)
    (λ end m' e. ends_weaker (nets_end bytes g n end m') (λ last h. omega arith))

-- m₁ are the occupants after the obstacles, m₂ those after the nets
module _ (bits : List ℕ) (head : Head) (m : List ℕ) {m₁ : List ℕ}
    (occupants : m₁ ≡ occupants_of (obstacles_from bits head.grid head.obstacles (obstacles_at head) m)) where
  -- the obstacles are refused
  pub groups_blocked : {n p : ℕ} → refused n p ≡ answer_of (obstacles_from bits head.grid head.obstacles (obstacles_at head) m)
      → groups_from bits head m ≡ stopped n p m₁
  unfolding groups_from
  groups_blocked answer = then_refused _ _ answer occupants

  module _ {nets_at : ℕ} (at : good nets_at ≡ answer_of (obstacles_from bits head.grid head.obstacles (obstacles_at head) m)) {m₂ : List ℕ}
      (occupants' : m₂ ≡ occupants_of (nets_from bits head.grid head.nets nets_at m₁)) where
    -- the nets are refused
    pub groups_stopped : {n p : ℕ} → refused n p ≡ answer_of (nets_from bits head.grid head.nets nets_at m₁) → groups_from bits head m ≡ stopped n p m₂
    unfolding groups_from
    groups_stopped answer = then_at _ _ at occupants ∙ then_refused _ _ answer occupants'

    -- the tail is read
    pub groups_through : {end : ℕ} {t : Read ℕ} → good end ≡ answer_of (nets_from bits head.grid head.nets nets_at m₁)
        → t ≡ many_reached end (read_tail bits end) → groups_from bits head m ≡ with_occupants m₂ t
    unfolding groups_from
    groups_through end tail = then_at _ _ at occupants ∙ then_at _ _ end occupants' ∙ ap (with_occupants m₂) (sym tail)
