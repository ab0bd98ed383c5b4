-- The moves that enter a vertex get their bits: each may lead on to it.
--     none_entered, one_entered, one_lit      the bit of the move back is set where a move enters
--     lit_stays, lit_long                     and those that were set stay so
--     Lighting, lighting_begun, _on, _done    the moves that enter a vertex, one after the other
use Prim.Native.Nat.{ℕ, zero, suc, ◌+◌, ◌-◌, ◌*◌, ◌%◌, ◌≤◌, ◌<◌}
use mathlib.Core.Path.{◌≡◌, refl, sym, subst, ◌∙◌}
use mathlib.Core.List.{List}
use native.Mathlib.Omega.{arith}
use native.Mathlib.Decide.{ℕ_discrete}
use lib.ListN.{length, get_or, set, length-set}
use Rattle.job.specs.Grid.{Grid, vertices}
use Rattle.job.specs.Structs.{Sized, grid_of}
use Rattle.job.specs.declared.grid.Grid.{Grid as GridStruct}
use Rattle.std.proofs.Common.{Option, Some, None}
use Rattle.rules.specs.Tracks.{outside, at, entered}
use Rattle.rules.specs.Structs.{entered_of}
use Rattle.rules.proofs.Fitting.{entered_outside, entered_at}
use Rattle.rules.proofs.Neighbours.{entered_below, entered_back}
use Rattle.search.specs.Bits.{HasMove, with_move}
use Rattle.search.proofs.Bits.{moves_set, moves_stay}

module _ {grid : GridStruct} {v : ℕ} (number : ℕ) (sized : Sized grid) (below : v < vertices (grid_of grid)) {r : Option ℕ}
    (is : r ≡ entered_of (entered (grid_of grid) v number)) where
  -- a move out of the grid enters no vertex
  pub none_entered : r ≡ None → (w : ℕ) → entered (grid_of grid) v number ≡ at w → ⊥
  none_entered off w e = apart (sym (entered_outside _ (sym is ∙ off)) ∙ e)
    where
      apart : outside ≡ at w → ⊥
      apart f = let z : ◌≡◌ {A = ℕ} 0 1 = cc in omega arith

  module _ {u : ℕ} (into : r ≡ Some u) where
    -- a vertex that is entered has a byte
    pub one_entered : u < 16384
    one_entered = omega (arith, entered_below (grid_of grid) number below (entered_at _ (sym is ∙ into)), sized.vertices)

    module _ (near : List ℕ) (long : length near ≡ 16384) where
      -- with a move's bit set there
      pub one_lit : (m w : ℕ) → entered (grid_of grid) v number ≡ at w → HasMove (get_or (set near u (with_move (get_or near u 0) m)) w 0) m
      one_lit m w e = rw (same (sym e ∙ entered_at _ (sym is ∙ into))) (moves_set near u m (omega (arith, one_entered)))
        where
          same : {a b : ℕ} → at a ≡ at b → a ≡ b
          same f = cc

      -- those that were set stay so
      pub lit_stays : (m w k : ℕ) → HasMove (get_or near w 0) k → HasMove (get_or (set near u (with_move (get_or near u 0) m)) w 0) k
      lit_stays m = moves_stay near u m (omega (arith, one_entered))

      pub lit_long : (m : ℕ) → length (set near u (with_move (get_or near u 0) m)) ≡ 16384
      lit_long m = length-set near u _ ∙ long

-- a move is the opposite of its opposite
back_twice : (m : ℕ) → m < 4 → m + 1 - 2 * (m % 2) + 1 - 2 * ((m + 1 - 2 * (m % 2)) % 2) ≡ m
back_twice zero h = refl
back_twice (suc zero) h = refl
back_twice (suc (suc zero)) h = refl
back_twice (suc (suc (suc zero))) h = refl
back_twice (suc (suc (suc (suc m)))) h = absurd (omega arith)

module _ (g : Grid) (v : ℕ) (near₀ : List ℕ) where
  -- where so many moves enter, the bits of the moves back are set
  pub record Lighting (near : List ℕ) (number : ℕ) : Type 0 where
    pub few : number ≤ 4
    pub lit : (m u : ℕ) → m < number → entered g v m ≡ at u → HasMove (get_or near u 0) (m + 1 - 2 * (m % 2))
    pub stays : (u m : ℕ) → HasMove (get_or near₀ u 0) m → HasMove (get_or near u 0) m
    pub bytes : length near ≡ 16384

  pub lighting_begun : length near₀ ≡ 16384 → Lighting near₀ 0
  lighting_begun long = record { few = omega arith; lit = λ m u h. absurd (omega arith); stays = λ u m is. is; bytes = long }

  module _ {near : List ℕ} {number : ℕ} (so_far : Lighting near number) where
    -- one more
    pub lighting_on : {after : List ℕ} → number < 4 → ((u : ℕ) → entered g v number ≡ at u → HasMove (get_or after u 0) (number + 1 - 2 * (number % 2)))
        → ((u m : ℕ) → HasMove (get_or near u 0) m → HasMove (get_or after u 0) m) → length after ≡ 16384 → Lighting after (number + 1)
    lighting_on {after} h lit stays long =
        record {
          few = omega arith;
          lit = λ m u below e. by m u below e (ℕ_discrete m number);
          stays = λ u m is. stays u m (so_far.stays u m is);
          bytes = long;
        }
      where
        by : (m u : ℕ) → m < number + 1 → entered g v m ≡ at u → Dec (m ≡ number) → HasMove (get_or after u 0) (m + 1 - 2 * (m % 2))
        by m u below e (yes is) = rw is (lit u (rw is at e))
        by m u below e (no is) = stays u _ (so_far.lit m u (omega arith) e)

    -- all: where a move enters v, the opposite one leads back, and the move is the opposite of that
    pub lighting_done : 4 ≤ number → (u m : ℕ) → u < vertices g → entered g u m ≡ at v → HasMove (get_or near u 0) m
    lighting_done all u m below e =
        let (less, back) = entered_back g m below e in
        let lit = so_far.lit (m + 1 - 2 * (m % 2)) u (omega arith) back in
        subst (HasMove (get_or near u 0)) (back_twice m less) lit
