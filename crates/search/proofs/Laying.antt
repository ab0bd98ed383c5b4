-- The layout of the work slice: what keeps it.
--     at_list                                      the same word is the same place of the list
--     laid_none                                    a slice of zeros is laid out, heap and list empty
--     laid_room                                    heap and list never meet
--     laid_as                                      the same list of the same settled places keeps the layout
--     lowered_done, done_lowered, lowered_slots    `lower` settles no place and touches no settled one
--     laid_lower                                   and keeps the layout
use Prim.Native.Nat.{ℕ, suc, ◌+◌, ◌-◌, ◌≤◌, ◌<◌}
use mathlib.Core.Path.{◌≡◌, refl, sym, ap, ◌∙◌}
use mathlib.Core.List.{List}
use native.Mathlib.Omega.{arith}
use native.Mathlib.Decide.{ℕ_discrete, dec_lt}
use lib.ListN.{length, get_or}
use Rattle.heap.specs.Heaps.{key_of, slot_of, In, Heaped, Lowered}
use Rattle.heap.proofs.Words.{open_or_not}
use Rattle.heap.proofs.Laws.{heaped_none, lowered_left, room_both, room_beside}
use Rattle.search.specs.Lists.{list_at, Done, Laid}

-- a word of the list
pub at_list : (n : ℕ) (work found : List ℕ) (i : ℕ) → get_or work (n + n - 1 - i) 0 ≡ get_or found (n + n - 1 - i) 0 → list_at n work i ≡ list_at n found i
unfolding list_at
at_list n work found i e = e

-- ---- nothing touched

-- zero has the key 0
key_zero : {word : ℕ} → word ≡ 0 → key_of word ≡ 0
unfolding key_of
key_zero e = rw e refl

-- a slice of zeros is laid out, heap and list empty
pub laid_none : {n : ℕ} {work : List ℕ} (last : ℕ) → n + n ≤ length work → n ≤ 524288 → ((j : ℕ) → j < n + n → get_or work j 0 ≡ 0) → Laid n 0 0 last work
laid_none {n} {work} last room few zero =
    record {
      heaped = heaped_none room few none;
      listed = λ i h. absurd (omega arith);
      done = λ i h. absurd (omega arith);
      apart = λ i j h l e. absurd (omega arith);
      all = λ c h d. absurd (omega (arith, none c h, d.touched));
      rising = λ i j h l. absurd (omega arith);
      settled_low = λ c h d. absurd (omega (arith, none c h, d.touched));
      open_high = λ c h o. absurd (omega (arith, none c h, o.touched));
      gap = λ j h l. zero j (omega arith);
      bare = λ c h e. zero c (omega arith);
    }
  where
    none : (c : ℕ) → c < n → key_of (get_or work c 0) ≡ 0
    none c h = key_zero (zero c (omega arith))

-- ---- heap and list

module _ {n size settled last : ℕ} {work : List ℕ} (l : Laid n size settled last work) where
  -- no settled place is in the heap
  listed_out : (i : ℕ) → i < settled → In work n (list_at n work i) → ⊥
  listed_out i h = (l.done i h).out

  -- heap and list never meet
  pub laid_room : size + settled ≤ n
  laid_room = room_both (list_at n work) l.heaped.seated l.listed l.apart listed_out

  -- and where a place was never touched there is room for one more
  new_room : {c : ℕ} → c < n → key_of (get_or work c 0) ≡ 0 → size + settled < n
  new_room {c} h e =
      room_beside (list_at n work) l.heaped.seated l.listed l.apart listed_out c h (λ o. omega (arith, o.touched, e))
      (λ i k is. let touched : 0 < key_of (get_or work c 0) = rw is at (l.done i k).touched in omega arith)

  -- the same list, of the same settled places with the same keys
  pub laid_as : {now : ℕ} {left : List ℕ} → Heaped n now left → ((i : ℕ) → i < settled → list_at n left i ≡ list_at n work i)
      → ((c : ℕ) → c < n → Done n work c → Done n left c) → ((c : ℕ) → c < n → Done n left c → Done n work c)
      → ((c : ℕ) → c < n → Done n work c → key_of (get_or left c 0) ≡ key_of (get_or work c 0))
      → ((c : ℕ) → c < n → In left n c → last ≤ key_of (get_or left c 0))
      → ((j : ℕ) → n + now ≤ j → j < n + n - settled → get_or left j 0 ≡ 0)
      → ((c : ℕ) → c < n → key_of (get_or left c 0) ≡ 0 → get_or left c 0 ≡ 0) → Laid n now settled last left
  laid_as {now} {left} heaped list to from keys high gap bare =
      record {
        heaped = heaped;
        listed = λ i h. rw (list i h) (l.listed i h);
        done = λ i h. rw (list i h) (to (list_at n work i) (l.listed i h) (l.done i h));
        apart = λ i j h k e. l.apart i j h k (sym (list i h) ∙ e ∙ list j k);
        all = λ c h d. let was = l.all c h (from c h d) in (was.0, was.1, list was.0 was.1 ∙ was.2);
        rising = λ i j h k. omega (arith, l.rising i j h k, key i (omega arith), key j k);
        settled_low = λ c h d. omega (arith, keys c h (from c h d), l.settled_low c h (from c h d));
        open_high = high;
        gap = gap;
        bare = bare;
      }
    where
      key : (i : ℕ) → i < settled → key_of (get_or left (list_at n left i) 0) ≡ key_of (get_or work (list_at n work i) 0)
      key i h = ap (λ c. key_of (get_or left c 0)) (list i h) ∙ keys (list_at n work i) (l.listed i h) (l.done i h)

-- ---- an item put in, or its distance lowered

module _ {n size item distance : ℕ} {found work : List ℕ} {now : ℕ} (w : Lowered n size item distance found work now) where
  -- the item was put in, was lowered, or nothing changed
  lowered_ways : {A : Type 0} → (key_of (get_or found item 0) ≡ 0 → now ≡ size + 1 → In work n item → key_of (get_or work item 0) ≡ distance + 1 → A)
      → (In found n item → now ≡ size → In work n item → key_of (get_or work item 0) ≡ distance + 1 → A) → (now ≡ size → work ≡ found → A) → A
  lowered_ways {A} new better same =
      by (dec_lt 0 (key_of (get_or found item 0))) (open_or_not n (get_or found item 0)) (dec_lt (distance + 1) (key_of (get_or found item 0)))
    where
      by : Dec (0 < key_of (get_or found item 0)) → Dec (In found n item) → Dec (distance + 1 < key_of (get_or found item 0)) → A
      by (no t) o g = let none : key_of (get_or found item 0) ≡ 0 = omega arith in let is = w.new none in new none is.0 is.1 is.2
      by (yes t) (no o) g = let is = w.same t (λ x. absurd (o x)) in same is.0 is.1
      by (yes t) (yes o) (yes g) = let is = w.better o g in better o is.0 is.1 is.2
      by (yes t) (yes o) (no g) = let is = w.same t (λ x. omega arith) in same is.0 is.1

  -- a settled entry is untouched
  lowered_still : (c : ℕ) → c < n → Done n found c → get_or work c 0 ≡ get_or found c 0
  lowered_still c h d = by (ℕ_discrete c item)
    where
      by : Dec (c ≡ item) → get_or work c 0 ≡ get_or found c 0
      by (no e) = w.still c h e d.out
      by (yes e) =
          lowered_ways (λ none a b k. absurd (omega (arith, d.touched, ap (λ x. key_of (get_or found x 0)) e, none))) (λ o a b k. absurd (d.out (rw e o)))
          (λ a is. ap (λ xs. get_or xs c 0) is)

  -- so it is settled still
  pub lowered_done : (c : ℕ) → c < n → Done n found c → Done n work c
  lowered_done c h d = let same = lowered_still c h d in record { touched = rw same d.touched; out = λ o. d.out (rw same at o) }

  -- and no other place is
  pub done_lowered : (c : ℕ) → c < n → Done n work c → Done n found c
  done_lowered c h d = by (ℕ_discrete c item) (open_or_not n (get_or found c 0))
    where
      by : Dec (c ≡ item) → Dec (In found n c) → Done n found c
      by (no e) (yes o) = absurd (d.out (w.stays c h e o))
      by (no e) (no o) = let same = w.still c h e o in record { touched = rw same at d.touched; out = o }
      by (yes e) o = lowered_ways (λ none a b k. absurd (d.out (rw e b))) (λ x a b k. absurd (d.out (rw e b))) (λ a is. rw is at d)

  -- with its slot
  pub lowered_slots : {slot : ℕ} → ((c : ℕ) → c < n → Done n found c → slot_of (get_or found c 0) ≡ slot)
      → (c : ℕ) → c < n → Done n work c → slot_of (get_or work c 0) ≡ slot
  lowered_slots was c h d = let before = done_lowered c h d in ap slot_of (lowered_still c h before) ∙ was c h before

  -- `lower` keeps the layout
  pub laid_lower : {settled last : ℕ} → Laid n size settled last found → item < n → last ≤ suc distance → Laid n now settled last work
  laid_lower {settled} {last} l known high =
      laid_as l w.heaped list lowered_done done_lowered (λ c h d. ap key_of (lowered_still c h d)) opens
      (λ j h k. w.beyond j h ∙ l.gap j (omega (arith, h, room.0)) k) bare
    where
      room : (size ≤ now) × (now + settled ≤ n)
      room =
          lowered_ways (λ none a b k. let more = new_room l known none in (omega arith, omega arith))
          (λ o a b k. let all = laid_room l in (omega arith, omega arith)) (λ a is. let all = laid_room l in (omega arith, omega arith))

      list : (i : ℕ) → i < settled → list_at n work i ≡ list_at n found i
      list i h = at_list n work found i (w.beyond (n + n - 1 - i) (omega (arith, room.1)))

      opens : (c : ℕ) → c < n → In work n c → last ≤ key_of (get_or work c 0)
      opens c h o = by (ℕ_discrete c item)
        where
          by : Dec (c ≡ item) → last ≤ key_of (get_or work c 0)
          by (no e) = omega (arith, w.keys c h e, l.open_high c h (lowered_left w c h e o))
          by (yes e) =
              lowered_ways (λ none a b k. rw e (omega arith)) (λ x a b k. rw e (omega arith)) (λ a is. rw is (l.open_high c h (rw is at o)))

      bare : (c : ℕ) → c < n → key_of (get_or work c 0) ≡ 0 → get_or work c 0 ≡ 0
      bare c h k = by (ℕ_discrete c item)
        where
          by : Dec (c ≡ item) → get_or work c 0 ≡ 0
          by (no e) =
              let none : key_of (get_or found c 0) ≡ 0 = omega (arith, w.keys c h e) in
              w.still c h e (λ o. omega (arith, o.touched)) ∙ l.bare c h none
          by (yes e) =
              let own : key_of (get_or work item 0) ≡ 0 = rw e at k in
              lowered_ways (λ none a b x. absurd (omega arith)) (λ o a b x. absurd (omega arith)) (λ a is. rw is (l.bare c h (rw is at k)))
