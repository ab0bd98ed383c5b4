-- The place removed from the heap goes to the end of the list: the layout is kept.
--     room_list                                    there is room in the list for a place removed
--     take-keys, done_take, item_done, take_done   no key changes, and one place more is settled
--     take-slots                                   each with the slot of one that has left the heap
--     laid_take                                    with it in the list the slice is laid out
use Prim.Native.Nat.{ℕ, ◌+◌, ◌-◌, ◌≤◌, ◌<◌}
use mathlib.Core.Path.{◌≡◌, sym, ap, ◌∙◌}
use mathlib.Core.Logic.{◌⊎◌, inl, inr}
use mathlib.Core.List.{List}
use native.Mathlib.Omega.{arith}
use native.Mathlib.Decide.{ℕ_discrete, dec_lt}
use lib.ListN.{length, get_or, set}
use lib.Seq.{get_or-set_same, get_or-set_other}
use Rattle.heap.specs.Heaps.{key_of, slot_of, Removed}
use Rattle.heap.proofs.Laws.{heaped_store, removed_left}
use Rattle.search.specs.Lists.{list_at, Done, Laid}
use Rattle.search.proofs.Laying.{at_list, laid_room}

module _ {n size settled last item : ℕ} {found work : List ℕ} (l : Laid n size settled last found) (some : 0 < size) (t : Removed n size item found work) where
  -- the slice with the item in the list
  abbrev settling : List ℕ
  settling = set work (n + n - 1 - settled) item

  -- the list has room
  room_list : (settled + 1 ≤ n) × (n + (size - 1) ≤ n + n - 1 - settled) × (n + n - 1 - settled < length work)
  room_list = let room = laid_room l in (omega arith, omega arith, omega (arith, t.heaped.seated.room))

  -- no entry is in the list
  settling_word : (c : ℕ) → c < n → get_or settling c 0 ≡ get_or work c 0
  settling_word c h = get_or-set_other work (n + n - 1 - settled) c item 0 (omega (arith, room_list.1))

  -- no key changes
  pub take-keys : (c : ℕ) → c < n → key_of (get_or settling c 0) ≡ key_of (get_or found c 0)
  take-keys c h = ap key_of (settling_word c h) ∙ t.keys c h

  -- what was settled is
  pub done_take : (c : ℕ) → c < n → Done n found c → Done n settling c
  done_take c h d =
      let same = settling_word c h ∙ t.still c h d.out in
      record { touched = rw same d.touched; out = λ o. d.out (rw same at o) }

  -- and so is the item
  pub item_done : Done n settling item
  item_done =
      record { touched = omega (arith, take-keys item t.known, t.was.touched); out = λ o. t.gone (rw (settling_word item t.known) at o) }

  -- and no other
  pub take_done : (c : ℕ) → c < n → Done n settling c → (c ≡ item) ⊎ Done n found c
  take_done c h d = by (ℕ_discrete c item)
    where
      by : Dec (c ≡ item) → (c ≡ item) ⊎ Done n found c
      by (yes e) = inl e
      by (no e) =
          inr
          (record { touched = omega (arith, take-keys c h, d.touched); out = λ o. d.out (rw (settling_word c h) (t.stays c h e o)) })

  -- each with the slot of one that has left the heap
  pub take-slots : ((c : ℕ) → c < n → Done n found c → slot_of (get_or found c 0) ≡ 1048575)
      → (c : ℕ) → c < n → Done n settling c → slot_of (get_or settling c 0) ≡ 1048575
  take-slots was c h d = by (take_done c h d)
    where
      by : (c ≡ item) ⊎ Done n found c → slot_of (get_or settling c 0) ≡ 1048575
      by (inl e) = rw e (ap slot_of (settling_word item t.known) ∙ t.slot)
      by (inr before) = ap slot_of (settling_word c h ∙ t.still c h before.out) ∙ was c h before

  -- the place that is removed goes to the end of the list
  settling_last : list_at n settling settled ≡ item
  unfolding list_at
  settling_last = get_or-set_same work (n + n - 1 - settled) item 0 room_list.2

  -- the list before it is as it was
  settling_list : (i : ℕ) → i < settled → list_at n settling i ≡ list_at n found i
  settling_list i h =
      let room = laid_room l in
      at_list n settling found i
      (get_or-set_other work (n + n - 1 - settled) (n + n - 1 - i) item 0 (omega arith) ∙ t.beyond (n + n - 1 - i) (omega arith))

  -- an earlier one is not the item
  list_other : (i : ℕ) → i < settled → list_at n found i ≡ item → ⊥
  list_other i h e = (l.done i h).out (rw e t.was)

  -- no settled key is above the item's
  last_low : last ≤ key_of (get_or found item 0)
  last_low = l.open_high item t.known t.was

  list_low : (c : ℕ) → c < n → Done n settling c → key_of (get_or settling c 0) ≤ key_of (get_or found item 0)
  list_low c h d = by (take_done c h d)
    where
      by : (c ≡ item) ⊎ Done n found c → key_of (get_or settling c 0) ≤ key_of (get_or found item 0)
      by (inl e) = rw e (omega (arith, take-keys item t.known))
      by (inr was) = omega (arith, take-keys c h, l.settled_low c h was, last_low)

  -- each place of the list is an earlier one or the item
  list_done : (i : ℕ) → i < settled + 1 → (list_at n settling i < n) × Done n settling (list_at n settling i)
  list_done i h = by (dec_lt i settled)
    where
      by : Dec (i < settled) → (list_at n settling i < n) × Done n settling (list_at n settling i)
      by (yes k) = rw (settling_list i k) (l.listed i k, done_take (list_at n found i) (l.listed i k) (l.done i k))
      by (no k) = let e : i ≡ settled = omega arith in rw (e, settling_last) (t.known, item_done)

  -- with it in the list the slice is laid out
  pub laid_take : Laid n (size - 1) (settled + 1) (key_of (get_or found item 0)) settling
  laid_take =
      record {
        heaped = heaped_store (n + n - 1 - settled) item room_list.1 t.heaped;
        listed = λ i h. (list_done i h).0;
        done = λ i h. (list_done i h).1;
        apart = λ i j h k e. apart i j (dec_lt i settled) (dec_lt j settled) h k e;
        all = λ c h d. all c h (take_done c h d);
        rising = λ i j h k. rising i j (dec_lt j settled) h k;
        settled_low = list_low;
        open_high = λ c h o.
            let was = removed_left t c h (rw (settling_word c h) at o) in
            omega (arith, take-keys c h, t.least c h was);
        gap = λ j h k. gap j h k (dec_lt j (n + size));
        bare = λ c h e.
            let none : key_of (get_or found c 0) ≡ 0 = omega (arith, take-keys c h) in
            settling_word c h ∙ t.still c h (λ o. omega (arith, o.touched)) ∙ l.bare c h none;
      }
    where
      apart : (i j : ℕ) → Dec (i < settled) → Dec (j < settled) → i < settled + 1 → j < settled + 1 → list_at n settling i ≡ list_at n settling j → i ≡ j
      apart i j (yes a) (yes b) h k e = l.apart i j a b (sym (settling_list i a) ∙ e ∙ settling_list j b)
      apart i j (yes a) (no b) h k e =
          let is : j ≡ settled = omega arith in
          absurd (list_other i a (sym (settling_list i a) ∙ e ∙ ap (list_at n settling) is ∙ settling_last))
      apart i j (no a) (yes b) h k e =
          let is : i ≡ settled = omega arith in
          absurd (list_other j b (sym (settling_list j b) ∙ sym e ∙ ap (list_at n settling) is ∙ settling_last))
      apart i j (no a) (no b) h k e = omega arith

      all : (c : ℕ) → c < n → (c ≡ item) ⊎ Done n found c → (i : ℕ) × (i < settled + 1) × (list_at n settling i ≡ c)
      all c h (inl e) = (settled, omega arith, settling_last ∙ sym e)
      all c h (inr was) =
          let it = l.all c h was in
          let on = it.1 in
          (it.0, omega arith, settling_list it.0 it.1 ∙ it.2)

      key : (i : ℕ) → i < settled → key_of (get_or settling (list_at n settling i) 0) ≡ key_of (get_or found (list_at n found i) 0)
      key i h = ap (λ c. key_of (get_or settling c 0)) (settling_list i h) ∙ take-keys (list_at n found i) (l.listed i h)

      rising : (i j : ℕ) → Dec (j < settled) → i ≤ j → j < settled + 1
          → key_of (get_or settling (list_at n settling i) 0) ≤ key_of (get_or settling (list_at n settling j) 0)
      rising i j (yes b) h k = omega (arith, key i (omega arith), key j b, l.rising i j h b)
      rising i j (no b) h k =
          let is : j ≡ settled = omega arith in
          let low = list_low (list_at n settling i) (list_done i (omega arith)).0 (list_done i (omega arith)).1 in
          rw (is, settling_last) (omega (arith, low, take-keys item t.known))

      gap : (j : ℕ) → n + (size - 1) ≤ j → j < n + n - (settled + 1) → Dec (j < n + size) → get_or settling j 0 ≡ 0
      gap j h k (yes a) =
          let is : j ≡ n + (size - 1) = omega arith in
          get_or-set_other work (n + n - 1 - settled) j item 0 (omega arith) ∙ rw is t.empty
      gap j h k (no a) =
          get_or-set_other work (n + n - 1 - settled) j item 0 (omega arith) ∙ t.beyond j (omega arith) ∙ l.gap j (omega arith) (omega arith)
