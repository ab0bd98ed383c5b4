-- Reading the nets, way out by way out and turn by turn.
--     net_cut, net_counts, net_rules, net_end   one net
--     NetsLeft and its laws                     nets, in a loop
use Prim.Native.Nat.{ℕ, suc, ◌+◌, ◌-◌, ◌*◌, ◌≤◌, ◌<◌}
use mathlib.Core.Path.{◌≡◌, refl, sym, ◌∙◌}
use mathlib.Core.List.{List}
use mathlib.Core.Bool.{Bool, true, false}
use native.Mathlib.Omega.{arith}
use Rattle.std.proofs.Common.{Some, None}
use Rattle.bits.specs.Bits.{bits_of, whole, field}
use Rattle.bits.proofs.Laws.{field_below, bits_of_bits}
use Rattle.job.specs.Grid.{Grid}
use Rattle.job.specs.Reading.{Read, refused, good}
use Rattle.job.specs.Structs.{net_group}
use Rattle.occupants.specs.Occupants.{reached, stopped, answer_of, occupants_of, with_occupants, and_then, pins_from, boxes_from, net_from, nets_from}
use Rattle.job.specs.declared.groups.NetHead.{NetHead}
use Rattle.occupants.proofs.Answers.{then_at, then_refused, Ends, nowhere, ends_either, ends_then, ends_weaker, ends_at}
use Rattle.occupants.proofs.PinTurns.{pins_end}
use Rattle.occupants.proofs.BoxTurns.{boxes_end}

-- ---- one net

-- a field of four bits is below 16
four_bits : (bytes : List ℕ) (at : ℕ) → field (bits_of bytes) at 4 < 16
four_bits bytes at = field_below (bits_of bytes) at 4 (bits_of_bits bytes)

-- what a net's head counts
pub record Counted (h : NetHead) : Type 0 where
  pub pins : h.pins ≤ 16
  pub boxes : h.boxes < 16

-- at most 16 pins and 15 boxes
pub net_counts : (bytes : List ℕ) (at : ℕ) (h : NetHead) → net_group bytes at ≡ Some h → Counted h
unfolding net_group
net_counts bytes at h e = by (whole (bits_of bytes) at 8) refl
  where
    by : (b : Bool) → whole (bits_of bytes) at 8 ≡ b → Counted h
    by false w = absurd (cc)
    by true w =
        let same : h ≡ record { pins = suc (field (bits_of bytes) at 4); boxes = field (bits_of bytes) (at + 4) 4 } = cc in
        rw same (record { pins = four_bits bytes at; boxes = four_bits bytes (at + 4) })

module _ (bytes : List ℕ) (g : Grid) (at : ℕ) (m : List ℕ) where
  -- a net whose head is cut is refused by 2
  pub net_cut : net_group bytes at ≡ None → net_from (bits_of bytes) g at m ≡ stopped 2 at m
  unfolding net_group net_from
  net_cut e = by (whole (bits_of bytes) at 8) refl
    where
      by : (b : Bool) → whole (bits_of bytes) at 8 ≡ b → net_from (bits_of bytes) g at m ≡ stopped 2 at m
      by true w = absurd (cc)
      by false w = rw w

  -- the rules of a net whose head is whole
  pub record NetRules (h : NetHead) : Type 0 where
    pub blocked : (m' : List ℕ) (n p : ℕ) → refused n p ≡ answer_of (pins_from (bits_of bytes) g h.pins (at + 8) m)
        → m' ≡ occupants_of (pins_from (bits_of bytes) g h.pins (at + 8) m) → net_from (bits_of bytes) g at m ≡ stopped n p m'
    pub fine : (m' : List ℕ) (next : ℕ) (r : Read ℕ) → good next ≡ answer_of (pins_from (bits_of bytes) g h.pins (at + 8) m)
        → m' ≡ occupants_of (pins_from (bits_of bytes) g h.pins (at + 8) m) → r ≡ boxes_from (bits_of bytes) g h.boxes next
        → net_from (bits_of bytes) g at m ≡ with_occupants m' r

  -- a net whose head is whole goes by them
  pub net_rules : (h : NetHead) → net_group bytes at ≡ Some h → NetRules h
  unfolding net_group net_from
  net_rules h e = by (whole (bits_of bytes) at 8) refl
    where
      by : (b : Bool) → whole (bits_of bytes) at 8 ≡ b → NetRules h
      by false w = absurd (cc)
      by true w =
          let same : h ≡ record { pins = suc (field (bits_of bytes) at 4); boxes = field (bits_of bytes) (at + 4) 4 } = cc in
          rw same
          (record {
            blocked = λ m' n p answer occupants. rw w (then_refused _ _ answer occupants);
            fine = λ m' next r answer occupants boxes. rw (w, boxes) (then_at _ _ answer occupants);
          })

  -- a net takes at most 882 bits
  pub net_end : Ends (λ end. end ≤ at + 882) (net_from (bits_of bytes) g at m)
  unfolding net_from
  net_end =
      let pins = four_bits bytes at in
      let boxes = four_bits bytes (at + 4) in
      ends_either (whole (bits_of bytes) at 8)
      (ends_then _ (pins_end (bits_of bytes) g (suc (field (bits_of bytes) at 4)) (at + 8) m)
      (λ next m' e. ends_weaker (boxes_end (bits_of bytes) g (field (bits_of bytes) (at + 4) 4) next m') (λ end f. omega arith)))
      (nowhere 2 at m)

-- ---- nets

-- what is read from here on is what is read from the start
pub record NetsLeft (bytes : List ℕ) (g : Grid) (count from : ℕ) (m₀ : List ℕ) (done at : ℕ) (m : List ℕ) : Type 0 where
  pub same : nets_from (bits_of bytes) g count from m₀ ≡ nets_from (bits_of bytes) g (count - done) at m
  pub ends : at ≤ from + 882 * done

-- at first all are left
pub nets_all : (bytes : List ℕ) (g : Grid) (count from : ℕ) (m : List ℕ) → NetsLeft bytes g count from m 0 from m
nets_all bytes g count from m = let all : count - 0 ≡ count = omega arith in record { same = rw all; ends = omega arith }

-- one net, then the rest
nets_more : (bits : List ℕ) (g : Grid) (done count at : ℕ) (m : List ℕ) → done < count
    → nets_from bits g (count - done) at m ≡ and_then (net_from bits g at m) (nets_from bits g (count - (done + 1)))
unfolding nets_from
nets_more bits g done count at m h = let more : count - done ≡ suc (count - (done + 1)) = omega arith in rw more

module _ {bytes : List ℕ} {g : Grid} {count from : ℕ} {m₀ : List ℕ} {done at : ℕ} {m : List ℕ}
    (so_far : NetsLeft bytes g count from m₀ done at m) where
  -- a net that was read
  pub nets_next : {m' : List ℕ} {next : ℕ} → done < count → good next ≡ answer_of (net_from (bits_of bytes) g at m)
      → m' ≡ occupants_of (net_from (bits_of bytes) g at m) → NetsLeft bytes g count from m₀ (done + 1) next m'
  nets_next {m'} {next} h answer occupants =
      let position = ends_at next (net_end bytes g at m) (sym answer) in
      let old = so_far.ends in
      record {
        same = so_far.same
            ∙ nets_more (bits_of bytes) g done count at m h
            ∙ then_at _ (nets_from (bits_of bytes) g (count - (done + 1))) answer occupants;
        ends = omega arith;
      }

  -- a net that was refused
  pub nets_refused : {m' : List ℕ} {n p : ℕ} → done < count → refused n p ≡ answer_of (net_from (bits_of bytes) g at m)
      → m' ≡ occupants_of (net_from (bits_of bytes) g at m) → nets_from (bits_of bytes) g count from m₀ ≡ stopped n p m'
  nets_refused h answer occupants =
      so_far.same
      ∙ nets_more (bits_of bytes) g done count at m h
      ∙ then_refused _ (nets_from (bits_of bytes) g (count - (done + 1))) answer occupants

  -- no net is left
  pub nets_done : count ≤ done → nets_from (bits_of bytes) g count from m₀ ≡ reached at m
  unfolding nets_from
  nets_done h = let none : count - done ≡ 0 = omega arith in so_far.same ∙ rw none
