-- A segment's first vertex.
--     first_step           a step on does not move it
--     First, first_on      on the track: of the grid, with the room behind it, by its number
--     first_near           it lies no farther off than the grid goes
--     first_below          of the grid
use Prim.Native.Nat.{ℕ, zero, suc, ◌+◌, ◌-◌, ◌*◌, ◌≤◌, ◌<◌, min}
use mathlib.Core.Path.{◌≡◌, refl, ap, ◌∙◌}
use native.Mathlib.Omega.{arith}
use Rattle.job.specs.Grid.{Grid, vertices, stride_of}
use Rattle.rules.specs.Tracks.{layer_of, at, entered}
use Rattle.rules.specs.Segments.{Direction, low, high, opposite}
use Rattle.rules.specs.Overheads.{toward, back_from, first_of}
use Rattle.rules.specs.Structs.{room_toward, next_on}
use Rattle.rules.proofs.Neighbours.{entered_back}
use Rattle.rules.proofs.Rooms.{next_toward, Onward, onward, room_enters, room_ends}

-- the way back of a step
opposite_enters : (g : Grid) (d : Direction) {v w : ℕ} → v < vertices g → entered g v (toward d) ≡ at w
    → entered g w (toward (opposite d)) ≡ at v
unfolding toward opposite
opposite_enters g low h e = (entered_back g 0 h e).1
opposite_enters g high h e = (entered_back g 1 h e).1

-- "the segment's first vertex": a step on does not move it, so it stays the vertex that the via entered
pub first_step : (g : Grid) (d : Direction) (n : ℕ) {v w : ℕ} → v < vertices g → entered g v (toward d) ≡ at w
    → first_of g d (suc n) w ≡ first_of g d n v
unfolding first_of back_from
first_step g d n h e = rw (opposite_enters g d h e) refl

-- no step leads to the vertex itself
stays : (d : Direction) (v : ℕ) → v ≡ next_on 0 d v
unfolding next_on
stays low v = omega arith
stays high v = omega arith

-- two steps in a direction are one of both their lengths
twice : (a b : ℕ) (d : Direction) (v : ℕ) → next_on a d (next_on b d v) ≡ next_on (b + a) d v
unfolding next_on
twice a b low v = omega arith
twice a b high v = omega arith

-- what is left below after a step low
below_next : (a b : ℕ) (d : Direction) (v : ℕ) → (d ≡ low → b ≤ v) → (d ≡ low → a ≤ next_on b d v) → d ≡ low → b + a ≤ v
unfolding next_on
below_next a b low v hb ha e = omega (arith, hb refl, ha refl)
below_next a b high v hb ha e = let z : ◌≡◌ {A = ℕ} 0 1 = cc in omega arith

-- a step between two numbers below a limit is below it
near : (d : Direction) (a v w : ℕ) {limit : ℕ} → v < limit → w < limit → w ≡ next_on a d v → (d ≡ low → a ≤ v) → a < limit
unfolding next_on
near low a v w hv hw is within = omega (arith, within refl, hv)
near high a v w hv hw is within = omega (arith, is, hw)

module _ (g : Grid) (d : Direction) where
  -- how many steps the track goes on behind a vertex
  abbrev pub behind : (v : ℕ) → ℕ
  behind v = room_toward g (opposite d) v

  -- how much lower or higher the first vertex is
  abbrev pub distance : (n v : ℕ) → ℕ
  distance n v = min n (behind v) * stride_of g (layer_of g v)

  -- on the track: of the grid, with what is left behind it, by its number
  pub record First (n v : ℕ) : Type 0 where
    pub on_grid : first_of g d n v < vertices g
    pub layer : layer_of g (first_of g d n v) ≡ layer_of g v
    pub room : behind (first_of g d n v) ≡ behind v - n
    pub number : first_of g d n v ≡ next_on (distance n v) (opposite d) v
    pub within : opposite d ≡ low → distance n v ≤ v

  -- where no step leads back, it is the vertex itself
  stays_first : (n v : ℕ) → v < vertices g → first_of g d n v ≡ v → min n (behind v) ≡ 0 → First n v
  stays_first n v h is none =
      let no_way : distance n v ≡ 0 = rw none (omega arith) in
      record {
        on_grid = rw is h;
        layer = rw is refl;
        room = rw is (omega (arith, none));
        number = rw (is, no_way) (stays (opposite d) v);
        within = λ e. omega (arith, no_way);
      }

  -- behind a step back
  further_first : (n v : ℕ) {w : ℕ} → first_of g d (suc n) v ≡ first_of g d n w → w ≡ next_toward g (opposite d) v → Onward g (opposite d) v w → First n w
      → First (suc n) v
  further_first n v {w} is from on rest =
      let stride : stride_of g (layer_of g w) ≡ stride_of g (layer_of g v) = ap (stride_of g) on.layer in
      let steps : min (suc n) (behind v) ≡ suc (min n (behind w)) = omega (arith, on.room) in
      let far : distance (suc n) v ≡ stride_of g (layer_of g v) + distance n w = rw (steps, stride) (omega arith) in
      record {
        on_grid = rw is rest.on_grid;
        layer = rw is (rest.layer ∙ on.layer);
        room = rw is (omega (arith, rest.room, on.room));
        number = rw (is, far) (rest.number ∙ ap (next_on (distance n w) (opposite d)) from ∙ twice (distance n w) _ (opposite d) v);
        within = rw far (below_next (distance n w) _ (opposite d) v on.within (λ e. omega (arith, rest.within e, from)));
      }

  pub first_on : (n v : ℕ) → v < vertices g → First n v
  unfolding first_of back_from
  first_on zero v h = stays_first zero v h refl (omega arith)
  first_on (suc n) v h = by (behind v) refl (first_on n)
    where
      by : (room : ℕ) → behind v ≡ room → ((w : ℕ) → w < vertices g → First n w) → First (suc n) v
      by zero e rest = stays_first (suc n) v h (rw (room_ends g (opposite d) v e) refl) (omega (arith, e))
      by (suc k) e rest =
          let some : 0 < behind v = omega (arith, e) in
          let on = onward g (opposite d) h some in
          further_first n v (rw (room_enters g (opposite d) v some) refl) refl on (rest _ on.on_grid)

  -- it lies no farther off than the grid goes
  pub first_near : (n v : ℕ) → v < vertices g → distance n v < vertices g
  first_near n v h =
      let first = first_on n v h in
      near (opposite d) (distance n v) v (first_of g d n v) h first.on_grid first.number first.within

  -- of the grid
  pub first_below : (n : ℕ) {v : ℕ} → v < vertices g → first_of g d n v < vertices g
  first_below n {v} h = (first_on n v h).on_grid
