-- Reading nets with occupants follows reading nets.
--     pin_follows, pins_follow      pins
--     net_follows, nets_follow      nets
use Prim.Native.Nat.{ℕ, zero, suc, ◌+◌, ◌*◌, ◌≤◌}
use mathlib.Core.Path.{◌≡◌, refl}
use mathlib.Core.List.{List, [], ◌∷◌, ◌++◌}
use mathlib.Core.Bool.{Bool, true, false, ◌&&◌, not, cond}
use native.Mathlib.Omega.{arith}
use lib.ListN.{length, get_or, set}
use lib.Dec.{T}
use Rattle.bits.specs.Bits.{whole, field}
use Rattle.job.specs.Lists.{any}
use Rattle.job.specs.Grid.{Grid, Vertex, vertices, inside, same, vertex_number}
use Rattle.job.specs.Job.{Obstacle}
use Rattle.job.specs.Reading.{Read, good, ◌>>◌, rule, vertex_at, on_obstacle, read_many, read_pin, read_pins, read_box, read_net}
use Rattle.job.specs.Reading.{net_width, read_nets, nets_width}
use Rattle.job.specs.Good.{all_pins}
use Rattle.occupants.specs.Occupants.{Passed, stopped, with_occupants, pin_by_occupant, pin_at, pin_from, pins_from, boxes_from, net_from, nets_from, occupant_of, Occupants}
use Rattle.occupants.proofs.Covering.Following.{Follows, both_stop, both_go, follows_then, follows_end, follows_rule, plain_follows}
use Rattle.occupants.proofs.Covering.Covered.{any_swap, occupants_alike, occupants_pin}
use Rattle.occupants.proofs.Covering.Rest.{many_length}

module _ (bits : List ℕ) (g : Grid) (small : vertices g ≤ 16384) (obstacles : List Obstacle) where
  -- ---- pins

  -- a pin that is whole
  pin_at_follows : (earlier : List Vertex) (at : ℕ) (v : Vertex) (m : List ℕ) → Occupants g obstacles earlier m
      → Follows (λ u. at + 19) (λ u. Occupants g obstacles (u ∷ earlier)) (pin_at g at v m)
      (◌>>◌ (rule 8 at (inside g v && not (on_obstacle g obstacles v))) (◌>>◌ (rule 9 at (not (any (same v) earlier))) (good v)))
  unfolding pin_at pin_by_occupant occupant_of rule ◌>>◌
  pin_at_follows earlier at v m occupants = within (inside g v) refl
    where
      Reads : Passed → Read Vertex → Type 0
      Reads = Follows (λ u. at + 19) (λ u. Occupants g obstacles (u ∷ earlier))

      -- inside and on no obstacle: an earlier pin or not
      taken : (b : Bool) → T (inside g v) → on_obstacle g obstacles v ≡ false
          → Reads (pin_by_occupant at (vertex_number g v) (cond b 2 0) m) (◌>>◌ (rule 9 at (not b)) (good v))
      taken true h free = both_stop 9 at m
      taken false h free = both_go (at + 19) (set m (vertex_number g v) 2) v refl (occupants_pin g small v obstacles earlier m h free occupants)

      -- inside: on an obstacle or not
      blocked : (b : Bool) → on_obstacle g obstacles v ≡ b → T (inside g v)
          → Reads (pin_by_occupant at (vertex_number g v) (cond b 1 (cond (any (same v) earlier) 2 0)) m)
          (◌>>◌ (rule 8 at (not b)) (◌>>◌ (rule 9 at (not (any (same v) earlier))) (good v)))
      blocked true e h = both_stop 8 at m
      blocked false e h = taken (any (same v) earlier) h e

      -- inside or not
      within : (b : Bool) → inside g v ≡ b
          → Reads (cond b (pin_by_occupant at (vertex_number g v) (get_or m (vertex_number g v) 0) m) (stopped 8 at m))
          (◌>>◌ (rule 8 at (b && not (on_obstacle g obstacles v))) (◌>>◌ (rule 9 at (not (any (same v) earlier))) (good v)))
      within false e = both_stop 8 at m
      within true e = let h : T (inside g v) = rw e tt in rw (occupants.says v h) (blocked (on_obstacle g obstacles v) refl h)

  -- one pin
  pin_follows : (earlier : List Vertex) (at : ℕ) (m : List ℕ) → Occupants g obstacles earlier m
      → Follows (λ v. at + 19) (λ v. Occupants g obstacles (v ∷ earlier)) (pin_from bits g at m) (read_pin bits g obstacles earlier at)
  unfolding pin_from read_pin
  pin_follows earlier at m occupants = follows_rule 2 at m (whole bits at 19) (λ h. pin_at_follows earlier at (vertex_at bits at) m occupants)

  -- n pins, after earlier ones
  pins_follow : (earlier : List Vertex) (n at : ℕ) (m : List ℕ) → Occupants g obstacles earlier m
      → Follows (λ pins. at + 19 * length pins) (λ pins. Occupants g obstacles (pins ++ earlier)) (pins_from bits g n at m)
      (read_pins bits g obstacles earlier n at)
  unfolding pins_from read_pins
  pins_follow earlier zero at m occupants = both_go at m [] (omega arith) occupants
  pins_follow earlier (suc n) at m occupants =
      follows_then (pins_from bits g n) _ (pin_follows earlier at m occupants)
      (λ pin m' more. follows_end (λ pins. pin ∷ pins) (pins_follow (pin ∷ earlier) n (at + 19) m' more) (λ pins. omega arith)
      (λ pins m'' end. occupants_alike g (λ v. refl) (λ v. any_swap (same v) (pin ∷ []) pins earlier) end))

  -- ---- nets

  -- one net
  net_follows : (earlier : List Vertex) (at : ℕ) (m : List ℕ) → Occupants g obstacles earlier m
      → Follows (λ net. at + net_width net) (λ net. Occupants g obstacles (net.pins ++ earlier)) (net_from bits g at m)
      (read_net bits g obstacles earlier at)
  unfolding net_from read_net boxes_from net_width
  net_follows earlier at m occupants =
      follows_rule 2 at m (whole bits at 8)
      (λ h. follows_then _ _ (pins_follow earlier (suc (field bits at 4)) (at + 8) m occupants)
      (λ pins m' more. follows_end (λ boxes. record { pins = pins; boxes = boxes }) (boxes_follow (at + 8 + 19 * length pins) m' more)
      (λ boxes. omega arith) (λ boxes m'' end. end)))
    where
      boxes_follow : {Claim : List ℕ → Type 0} (start : ℕ) (occupied : List ℕ) → Claim occupied
          → Follows (λ boxes. start + 38 * length boxes) (λ boxes. Claim) (with_occupants occupied (boxes_from bits g (field bits (at + 4) 4) start))
          (read_many 38 (read_box bits g) (field bits (at + 4) 4) start)
      boxes_follow start occupied claim =
          plain_follows (λ boxes. start + 38 * length boxes) _ _ occupied
          (λ boxes e. let many = many_length 38 (read_box bits g) (field bits (at + 4) 4) start boxes e in omega arith) claim

  -- n nets, after earlier pins
  pub nets_follow : (earlier : List Vertex) (n at : ℕ) (m : List ℕ) → Occupants g obstacles earlier m
      → Follows (λ nets. at + nets_width nets) (λ nets. Occupants g obstacles (all_pins nets ++ earlier)) (nets_from bits g n at m)
      (read_nets bits g obstacles earlier n at)
  unfolding nets_from read_nets nets_width all_pins
  nets_follow earlier zero at m occupants = both_go at m [] (omega arith) occupants
  nets_follow earlier (suc n) at m occupants =
      follows_then (nets_from bits g n) _ (net_follows earlier at m occupants)
      (λ net m' more. follows_end (λ nets. net ∷ nets) (nets_follow (net.pins ++ earlier) n (at + net_width net) m' more) (λ nets. omega arith)
      (λ nets m'' end. occupants_alike g (λ v. refl) (λ v. any_swap (same v) net.pins (all_pins nets) earlier) end))
