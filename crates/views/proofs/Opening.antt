-- The bytes of the net's own pins.
--     PinsToOpen, pins_begin, pin-within, pins_turn, pins_end
--         the loop over the pins: before a turn, the next pin, a turn, after the last
--     opened_at                                                   the byte of a vertex afterwards
use Prim.Native.Nat.{ℕ, suc, ◌+◌, ◌-◌, ◌%◌, ◌≤◌, ◌<◌}
use mathlib.Core.Path.{◌≡◌, refl, sym, ◌∙◌}
use mathlib.Core.List.{List, [], ◌∷◌}
use mathlib.Core.Bool.{Bool, true, false, ◌||◌, cond}
use native.Mathlib.Numerals.{add-one}
use native.Mathlib.Omega.{arith}
use lib.ListN.{length, get_or, set, drop, length-set, drop_of_length-le}
use lib.Seq.{get_or-set_same, get_or-set_other, drop-cons}
use lib.Dec.{eqb}
use borrow.Author.Tests.{eqb-true, eqb-false}
use Rattle.job.specs.Lists.{any, All}
use Rattle.rules.specs.Views.{member}
use Rattle.views.specs.Sight.{taken_code, own_byte, opened}

-- before a turn: opening the pins that are left gives all, and these lie in the arrays
pub record PinsToOpen (n : ℕ) (codes pins before seen : List ℕ) (i : ℕ) : Type 0 where
  pub within : All (λ v. v < 16384) (drop i pins)
  pub mapped : All (λ v. v < length codes) (drop i pins)
  pub rest : opened n codes pins before ≡ opened n codes (drop i pins) seen

-- before the first turn no pin is open
pub pins_begin : (n : ℕ) (codes pins seen : List ℕ) → All (λ v. v < 16384) pins
    → All (λ v. v < length codes) pins → PinsToOpen n codes pins seen seen 0
pins_begin n codes pins seen h k = record { within = h; mapped = k; rest = refl }

module _ {n : ℕ} {codes pins before seen : List ℕ} {i : ℕ} (h : PinsToOpen n codes pins before seen i) where
  -- the pins that are left begin with the next
  next_pin : i < length pins → drop i pins ≡ get_or pins i 0 ∷ drop (suc i) pins
  next_pin more = drop-cons pins i 0 more

  -- the next pin lies in the arrays
  pub pin-within : i < length pins → (get_or pins i 0 < 16384) × (get_or pins i 0 < length codes)
  unfolding All
  pin-within more = ((rw (next_pin more) at h.within).0, (rw (next_pin more) at h.mapped).0)

  -- a turn opens the next pin
  pub pins_turn : i < length pins
      → PinsToOpen n codes pins before (set seen (get_or pins i 0) (own_byte n (get_or codes (get_or pins i 0) 0) (get_or seen (get_or pins i 0) 0))) (i + 1)
  unfolding All opened
  pins_turn more =
      rw add-one
      (record {
        within = (rw (next_pin more) at h.within).1;
        mapped = (rw (next_pin more) at h.mapped).1;
        rest = rw (next_pin more) at h.rest;
      })

  -- after the last turn all pins are open
  pub pins_end : length pins ≤ i → seen ≡ opened n codes pins before
  unfolding opened
  pins_end done =
      let none : drop i pins ≡ [] = drop_of_length-le pins {i = i} done in
      sym (rw none at h.rest)

-- ---- the byte of a vertex

module _ (n : ℕ) (codes : List ℕ) where
  -- the byte of one of the pins
  abbrev own : (v byte : ℕ) → ℕ
  own v byte = own_byte n (get_or codes v 0) byte

  -- made twice it is made once
  own_twice : (v byte : ℕ) → own v (own v byte) ≡ own v byte
  unfolding own_byte
  own_twice v byte = by (taken_code n (get_or codes v 0))
    where
      by : (b : Bool) → byte - byte % 4 + cond b 2 0 - (byte - byte % 4 + cond b 2 0) % 4 + cond b 2 0 ≡ byte - byte % 4 + cond b 2 0
      by true = omega arith
      by false = omega arith

  -- after one pin
  one_opened : (seen : List ℕ) (p v : ℕ) → v < length seen → get_or (set seen p (own p (get_or seen p 0))) v 0 ≡ cond (eqb v p) (own v (get_or seen v 0)) (get_or seen v 0)
  one_opened seen p v there = by (eqb v p) refl
    where
      by : (b : Bool) → eqb v p ≡ b → get_or (set seen p (own p (get_or seen p 0))) v 0 ≡ cond b (own v (get_or seen v 0)) (get_or seen v 0)
      by true e = rw (← eqb-true v p e) (get_or-set_same seen v (own v (get_or seen v 0)) 0 there)
      by false e = get_or-set_other seen p v (own p (get_or seen p 0)) 0 (eqb-false v p e)

  -- after all: the byte is made anew where the vertex is one of the pins
  pub opened_at : (pins seen : List ℕ) (v : ℕ) → v < length seen → get_or (opened n codes pins seen) v 0 ≡ cond (member v pins) (own v (get_or seen v 0)) (get_or seen v 0)
  unfolding opened member any
  opened_at [] seen v there = refl
  opened_at (p ∷ ps) seen v there =
      opened_at ps (set seen p (own p (get_or seen p 0))) v (simp length-set there) ∙ rw (one_opened seen p v there) (by (eqb v p) (member v ps) (get_or seen v 0))
    where
      by : (a b : Bool) (byte : ℕ) → cond b (own v (cond a (own v byte) byte)) (cond a (own v byte) byte) ≡ cond (a || b) (own v byte) byte
      by true true byte = own_twice v byte
      by true false byte = refl
      by false b byte = refl
