-- A lead put on a settled place: the layout is kept.
--     lead_other, lead_keys, lead_slot_lem    a lead changes one word, and no key
--     lead_there, lead_done, done_lead        on a settled place it leaves the same places settled
--     laid_lead                               it keeps the layout
use Prim.Native.Nat.{ℕ, ◌+◌, ◌-◌, ◌<◌}
use mathlib.Core.Path.{◌≡◌, sym, ap, ◌∙◌}
use mathlib.Core.List.{List}
use native.Mathlib.Omega.{arith}
use native.Mathlib.Decide.{ℕ_discrete}
use lib.ListN.{length, get_or, length-set}
use lib.Seq.{get_or-set_same, get_or-set_other}
use Rattle.heap.specs.Heaps.{key_of, slot_of, word_of, In, item_at, above, Heaped}
use Rattle.heap.proofs.Words.{key_word, slot_word}
use Rattle.heap.proofs.Swaps.{seat_in}
use Rattle.search.specs.Fronts.{lead_slot, with_lead}
use Rattle.search.specs.Lists.{Done, Laid}
use Rattle.search.proofs.Laying.{at_list, laid_room, laid_as}

-- the other words are as they were
pub lead_other : (work : List ℕ) (lead : ℕ) {c : ℕ} (d : ℕ) → (d ≡ c → ⊥) → get_or (with_lead work c lead) d 0 ≡ get_or work d 0
lead_other work lead {c} d e = get_or-set_other work c d (word_of (key_of (get_or work c 0)) (lead_slot lead)) 0 e

module _ (work : List ℕ) {c : ℕ} (there : c < length work) (lead : ℕ) (few : lead < 4) where
  -- its word
  lead_same : get_or (with_lead work c lead) c 0 ≡ word_of (key_of (get_or work c 0)) (lead_slot lead)
  lead_same = get_or-set_same work c (word_of (key_of (get_or work c 0)) (lead_slot lead)) 0 there

  -- no key changes
  pub lead_keys : (d : ℕ) → key_of (get_or (with_lead work c lead) d 0) ≡ key_of (get_or work d 0)
  lead_keys d = by (ℕ_discrete d c)
    where
      by : Dec (d ≡ c) → key_of (get_or (with_lead work c lead) d 0) ≡ key_of (get_or work d 0)
      by (yes e) = rw e (ap key_of lead_same ∙ key_word (key_of (get_or work c 0)) (lead_slot lead) (omega (arith, few)))
      by (no e) = ap key_of (lead_other work lead d e)

  -- the place has the lead's slot, which is no seat of the heap
  pub lead_slot_lem : slot_of (get_or (with_lead work c lead) c 0) ≡ lead_slot lead
  lead_slot_lem = ap slot_of lead_same ∙ slot_word (key_of (get_or work c 0)) (lead_slot lead) (omega (arith, few))

module _ {n size settled last c : ℕ} {work : List ℕ} (l : Laid n size settled last work) (known : c < n) (done : Done n work c) (lead : ℕ)
    (few : lead < 4) where
  -- a place has its entry
  pub lead_there : c < length work
  lead_there = omega (arith, l.heaped.seated.room)

  -- so no key changes
  keys-same : (d : ℕ) → key_of (get_or (with_lead work c lead) d 0) ≡ key_of (get_or work d 0)
  keys-same = lead_keys work lead_there lead few

  -- so no place gets into the heap, or leaves it
  in_lead : (d : ℕ) → In work n d → In (with_lead work c lead) n d
  in_lead d o = by (ℕ_discrete d c)
    where
      by : Dec (d ≡ c) → In (with_lead work c lead) n d
      by (yes e) = absurd (done.out (rw e at o))
      by (no e) = rw (lead_other work lead d e) o

  lead_in : (d : ℕ) → In (with_lead work c lead) n d → (d ≡ c → ⊥) × In work n d
  lead_in d o = by (ℕ_discrete d c)
    where
      by : Dec (d ≡ c) → (d ≡ c → ⊥) × In work n d
      by (yes e) =
          let own : In (with_lead work c lead) n c = rw e at o in
          absurd (omega (arith, own.placed, lead_slot_lem work lead_there lead few, l.heaped.seated.few))
      by (no e) = (e, rw (lead_other work lead d e) at o)

  -- and the same places are settled
  lead_done : (d : ℕ) → Done n (with_lead work c lead) d → Done n work d
  lead_done d h = record { touched = omega (arith, keys-same d, h.touched); out = λ o. h.out (in_lead d o) }

  done_lead : (d : ℕ) → Done n work d → Done n (with_lead work c lead) d
  done_lead d h = record { touched = omega (arith, keys-same d, h.touched); out = λ o. h.out (lead_in d o).1 }

  -- the heap is as it was
  lead_item : (i : ℕ) → item_at (with_lead work c lead) n i ≡ item_at work n i
  lead_item i = ap slot_of (lead_other work lead (n + i) (omega arith))

  lead_entry : (i : ℕ) → i < size → get_or (with_lead work c lead) (item_at (with_lead work c lead) n i) 0 ≡ get_or work (item_at work n i) 0
  lead_entry i h =
      ap (λ d. get_or (with_lead work c lead) d 0) (lead_item i) ∙ lead_other work lead (item_at work n i) (λ e. done.out (rw e at (seat_in l.heaped.seated h)))

  lead_heaped : Heaped n size (with_lead work c lead)
  lead_heaped =
      let s = l.heaped.seated in
      record {
        seated =
            record {
              room = omega (arith, s.room, length-set work c (word_of (key_of (get_or work c 0)) (lead_slot lead)));
              few = s.few;
              fits = s.fits;
              small = λ d h. omega (arith, keys-same d, s.small d h);
              items = λ i h. rw (lead_item i) (s.items i h);
              touched = λ i h. rw (ap key_of (lead_entry i h)) (s.touched i h);
              slots = λ i h. ap slot_of (lead_entry i h) ∙ s.slots i h;
              agree = λ i h. keys-same (n + i) ∙ s.agree i h ∙ sym (ap key_of (lead_entry i h));
              within = λ d h o. let was = lead_in d o in rw (lead_other work lead d was.0) (s.within d h was.1);
              seats = λ d h o. let was = lead_in d o in rw (lead_other work lead d was.0) (lead_item (slot_of (get_or work d 0)) ∙ s.seats d h was.1);
            };
        order = λ i p h. rw (ap key_of (lead_entry i h), ap key_of (lead_entry (above i) (omega arith))) (l.heaped.order i p h);
      }

  -- and so is the layout
  pub laid_lead : Laid n size settled last (with_lead work c lead)
  laid_lead =
      let room = laid_room l in
      laid_as l lead_heaped (λ i h. at_list n (with_lead work c lead) work i (lead_other work lead (n + n - 1 - i) (omega arith))) (λ d h. done_lead d) (λ d h. lead_done d)
      (λ d h k. keys-same d) (λ d h o. omega (arith, keys-same d, l.open_high d h (lead_in d o).1))
      (λ j h k. lead_other work lead j (omega arith) ∙ l.gap j h k) (λ d h e. bare d h e (ℕ_discrete d c))
    where
      bare : (d : ℕ) → d < n → key_of (get_or (with_lead work c lead) d 0) ≡ 0 → Dec (d ≡ c) → get_or (with_lead work c lead) d 0 ≡ 0
      bare d h e (yes is) = absurd (omega (arith, done.touched, ap (λ x. key_of (get_or work x 0)) is, keys-same d))
      bare d h e (no is) = lead_other work lead d is ∙ l.bare d h (sym (keys-same d) ∙ e)
