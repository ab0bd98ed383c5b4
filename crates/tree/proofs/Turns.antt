-- The pins of a net, one by one.
--     pin-count, pin_vertex      the pins that are there, and one by its index
--     put_turn, put_done         putting a byte at each
--     some_told                  looking for an unjoined one
--     begun_some, begun_none     the bytes before the first join
use Prim.Native.Nat.{ℕ, zero, suc, ◌≤◌, ◌<◌}
use mathlib.Core.Path.{◌≡◌, refl, ap}
use mathlib.Core.List.{List, [], ◌∷◌}
use mathlib.Core.Bool.{Bool, ◌||◌}
use native.Mathlib.Nat.{not-suc-le-zero}
use lib.ListN.{length, get_or, set, take, drop, drop_of_length-le}
use lib.Seq.{length-take-le, drop-cons, get_or-take}
use lib.Dec.{eqb}
use Rattle.std.specs.List.{list_any}
use Rattle.job.specs.Lists.{any}
use Rattle.rules.proofs.Standing.{all_at}
use Rattle.tree.specs.Spots.{Pins, put_all, begun_spots, some_unjoined}

module _ {pins : List ℕ} {count : ℕ} (held : Pins pins count) where
  -- so many pins are there
  pub pin-count : length (take count pins) ≡ count
  pin-count = length-take-le count pins held.there

  -- a pin by its index is a vertex
  pub pin_vertex : {i : ℕ} → i < count → get_or pins i 0 < 16384
  pin_vertex {i} on =
      rw (get_or-take count pins i 0 on) at (all_at (λ v. v < 16384) (take count pins) i 0 held.on_grid (rw pin-count on))

module _ (pins : List ℕ) {i : ℕ} (byte : ℕ) (spots : List ℕ) where
  -- the byte is put at the first of those left, and then at the rest
  pub put_turn : i < length pins → put_all byte (drop i pins) spots ≡ put_all byte (drop (suc i) pins) (set spots (get_or pins i 0) byte)
  unfolding put_all
  put_turn on = rw (drop-cons pins i 0 on) refl

  -- none is left
  pub put_done : length pins ≤ i → put_all byte (drop i pins) spots ≡ spots
  unfolding put_all
  put_done h = rw (drop_of_length-le pins {i = i} h) refl

-- one is unjoined where the library's test says so
pub some_told : (spots pins : List ℕ) → list_any (λ v. eqb (get_or spots v 0) 2) pins ≡ some_unjoined spots pins
unfolding some_unjoined any
some_told spots [] = refl
some_told spots (p ∷ ps) = ap (λ (b : Bool). eqb (get_or spots p 0) 2 || b) (some_told spots ps)

-- the first pin is the tree
pub begun_some : (pins : List ℕ) (count : ℕ) (spots : List ℕ) → Pins pins count → (count ≡ 0 → ⊥)
    → begun_spots (take count pins) spots ≡ set (put_all 2 (take count pins) spots) (get_or pins 0 0) 1
unfolding begun_spots
begun_some pins zero spots held some = absurd (some refl)
begun_some [] (suc n) spots held some = absurd (not-suc-le-zero held.there)
begun_some (p ∷ ps) (suc n) spots held some = refl

-- no pin
pub begun_none : (pins : List ℕ) {count : ℕ} (spots : List ℕ) → count ≡ 0 → begun_spots (take count pins) spots ≡ spots
unfolding begun_spots
begun_none [] spots e = rw e refl
begun_none (p ∷ ps) spots e = rw e refl
