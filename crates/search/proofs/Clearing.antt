-- What a search has touched is made zero: one item after the other, with the word that names it.
--     Named, Clearing
--         words and the items that they name, of which so many are zero
--     clearing_begun                                         before the first
--     clearing_read, clearing_fits, clearing_on
--         the next word is as found and in the slice; one more is zero
--     heap_named, heap_read, heap_cleared                    the words of the heap
--     list_named, list_read, list_cleared                    the words of the list
--     cleared_listed                                         with the heap cleared the list is as it was
--     cleared_bare, cleared_kept
--         with both cleared all is zero, and what is past them is as found
use Prim.Native.Nat.{ℕ, ◌+◌, ◌-◌, ◌≤◌, ◌<◌}
use mathlib.Core.Path.{◌≡◌, refl, sym, ap, ◌∙◌}
use mathlib.Core.List.{List}
use native.Mathlib.Omega.{arith}
use native.Mathlib.Decide.{ℕ_discrete, dec_lt}
use lib.ListN.{length, get_or, set, length-set}
use lib.Seq.{get_or-set_same, get_or-set_other}
use Rattle.heap.specs.Heaps.{key_of, slot_of, In, item_at, Seated}
use Rattle.heap.proofs.Words.{open_or_not}
use Rattle.metal.specs.Codes.{Beyond, Bare}
use Rattle.metal.proofs.Slices.{beyond_by}
use Rattle.search.specs.Lists.{list_at, Laid}
use Rattle.search.proofs.Laying.{laid_room, at_list}

-- ---- two words made zero

-- one of them
zero_same : (xs : List ℕ) (v : ℕ) → v < length xs → get_or (set xs v 0) v 0 ≡ 0
zero_same xs v h = get_or-set_same xs v 0 0 h

zero_kept : (xs : List ℕ) (v j : ℕ) → v < length xs → get_or xs j 0 ≡ 0 → get_or (set xs v 0) j 0 ≡ 0
zero_kept xs v j h e = by (ℕ_discrete j v)
  where
    by : Dec (j ≡ v) → get_or (set xs v 0) j 0 ≡ 0
    by (yes is) = rw is (zero_same xs v h)
    by (no is) = get_or-set_other xs v j 0 0 is ∙ e

module _ (xs : List ℕ) (a b : ℕ) (ha : a < length xs) (hb : b < length xs) where
  abbrev erased : List ℕ
  erased = set (set xs a 0) b 0

  erased_long : b < length (set xs a 0)
  erased_long = omega (arith, length-set xs a 0)

  erase_first : get_or erased a 0 ≡ 0
  erase_first = zero_kept (set xs a 0) b a erased_long (zero_same xs a ha)

  erase_second : get_or erased b 0 ≡ 0
  erase_second = zero_same (set xs a 0) b erased_long

  erase_zero : (j : ℕ) → get_or xs j 0 ≡ 0 → get_or erased j 0 ≡ 0
  erase_zero j e = zero_kept (set xs a 0) b j erased_long (zero_kept xs a j ha e)

  erase_other : (j : ℕ) → (j ≡ a → ⊥) → (j ≡ b → ⊥) → get_or erased j 0 ≡ get_or xs j 0
  erase_other j e f = get_or-set_other (set xs a 0) b j 0 0 f ∙ get_or-set_other xs a j 0 0 e

-- ---- one after the other

-- different words past the entries, and the items that they name
pub record Named (n count : ℕ) (place item : ℕ → ℕ) (found : List ℕ) : Type 0 where
  pub room : n + n ≤ length found
  pub known : (i : ℕ) → i < count → item i < n
  pub low : (i : ℕ) → i < count → n ≤ place i
  pub high : (i : ℕ) → i < count → place i < n + n
  pub apart : (i j : ℕ) → i < count → j < count → place i ≡ place j → i ≡ j

-- k of them are zero, and so is what was
pub record Clearing (n count : ℕ) (place item : ℕ → ℕ) (found : List ℕ) (k : ℕ) (work : List ℕ) : Type 0 where
  pub named : Named n count place item found
  pub upto : k ≤ count
  pub long : length work ≡ length found
  pub items : (i : ℕ) → i < k → get_or work (item i) 0 ≡ 0
  pub words : (i : ℕ) → i < k → get_or work (place i) 0 ≡ 0
  pub rest : (j : ℕ) → n ≤ j → ((i : ℕ) → i < k → j ≡ place i → ⊥) → get_or work j 0 ≡ get_or found j 0
  pub bare : (j : ℕ) → get_or found j 0 ≡ 0 → get_or work j 0 ≡ 0

-- before the first
pub clearing_begun : {n count : ℕ} {place item : ℕ → ℕ} {found : List ℕ} → Named n count place item found → Clearing n count place item found 0 found
clearing_begun named =
    record {
      named = named;
      upto = omega arith;
      long = refl;
      items = λ i h. absurd (omega arith);
      words = λ i h. absurd (omega arith);
      rest = λ j h e. refl;
      bare = λ j e. e;
    }

module _ {n count : ℕ} {place item : ℕ → ℕ} {found : List ℕ} {k : ℕ} {work : List ℕ} (c : Clearing n count place item found k work) (more : k < count) where
  -- the next word is as found
  pub clearing_read : get_or work (place k) 0 ≡ get_or found (place k) 0
  clearing_read =
      c.rest (place k) (c.named.low k more)
      (λ i h e. let same = c.named.apart k i more (omega arith) e in omega arith)

  -- it is in the slice, and so is the item that it names
  pub clearing_fits : (item k < length work) × (place k < length work)
  clearing_fits =
      let room : n + n ≤ length work = omega (arith, c.long, c.named.room) in
      (omega (arith, c.named.known k more), omega (arith, c.named.high k more))

  -- one more
  pub clearing_on : {it : ℕ} {left : List ℕ} → it ≡ item k → left ≡ set (set work it 0) (place k) 0 → Clearing n count place item found (k + 1) left
  clearing_on is e =
      rw (e, is)
      (record {
        named = c.named;
        upto = omega arith;
        long = length-set (set work (item k) 0) (place k) 0 ∙ length-set work (item k) 0 ∙ c.long;
        items = λ i h. items i h (dec_lt i k);
        words = λ i h. words i h (dec_lt i k);
        rest = λ j h o.
            erase_other work (item k) (place k) clearing_fits.0 clearing_fits.1 j (omega (arith, h, c.named.known k more)) (o k (omega arith))
            ∙ c.rest j h (λ i l. o i (omega arith));
        bare = λ j z. erase_zero work (item k) (place k) clearing_fits.0 clearing_fits.1 j (c.bare j z);
      })
    where
      items : (i : ℕ) → i < k + 1 → Dec (i < k) → get_or (set (set work (item k) 0) (place k) 0) (item i) 0 ≡ 0
      items i h (yes l) = erase_zero work (item k) (place k) clearing_fits.0 clearing_fits.1 (item i) (c.items i l)
      items i h (no l) =
          let same : i ≡ k = omega arith in
          rw same (erase_first work (item k) (place k) clearing_fits.0 clearing_fits.1)

      words : (i : ℕ) → i < k + 1 → Dec (i < k) → get_or (set (set work (item k) 0) (place k) 0) (place i) 0 ≡ 0
      words i h (yes l) = erase_zero work (item k) (place k) clearing_fits.0 clearing_fits.1 (place i) (c.words i l)
      words i h (no l) =
          let same : i ≡ k = omega arith in
          rw same (erase_second work (item k) (place k) clearing_fits.0 clearing_fits.1)

-- ---- the heap and the list

-- the heap's words name its items
pub heap_named : {n size : ℕ} {found : List ℕ} → Seated n size found → Named n size (λ i. n + i) (λ i. item_at found n i) found
heap_named s =
    record {
      room = s.room;
      known = s.items;
      low = λ i h. omega arith;
      high = λ i h. omega (arith, s.fits);
      apart = λ i j h k e. omega arith;
    }

-- the item that a word names, as it is read
pub heap_read : {n size : ℕ} {found : List ℕ} {k : ℕ} {work : List ℕ} → Clearing n size (λ i. n + i) (λ i. item_at found n i) found k work → k < size
    → item_at work n k ≡ item_at found n k
heap_read c more = ap slot_of (clearing_read c more)

-- the list's words are the settled places
pub list_named : {n settled : ℕ} {found : List ℕ} → n + n ≤ length found → settled ≤ n → ((i : ℕ) → i < settled → list_at n found i < n)
    → Named n settled (λ i. n + n - 1 - i) (list_at n found) found
list_named room few listed =
    record {
      room = room;
      known = listed;
      low = λ i h. omega arith;
      high = λ i h. omega arith;
      apart = λ i j h k e. omega arith;
    }

-- a word of the list as it is read
pub list_read : {n settled : ℕ} {found : List ℕ} {k : ℕ} {work : List ℕ} → Clearing n settled (λ i. n + n - 1 - i) (list_at n found) found k work → k < settled
    → get_or work (n + n - 1 - k) 0 ≡ list_at n found k
unfolding list_at
list_read c more = clearing_read c more

-- the heap is cleared
abbrev pub HeapCleared : (n size : ℕ) (found work : List ℕ) → Type 0
HeapCleared n size found work =
    ((i : ℕ) → i < size → get_or work (item_at found n i) 0 ≡ 0) × ((i : ℕ) → i < size → get_or work (n + i) 0 ≡ 0)
    × ((j : ℕ) → n + size ≤ j → get_or work j 0 ≡ get_or found j 0) × ((j : ℕ) → get_or found j 0 ≡ 0 → get_or work j 0 ≡ 0)

pub heap_cleared : {n size : ℕ} {found : List ℕ} {k : ℕ} {work : List ℕ} → Clearing n size (λ i. n + i) (λ i. item_at found n i) found k work
    → size ≤ k → HeapCleared n size found work
heap_cleared c end =
    (λ i h. c.items i (omega arith), λ i h. c.words i (omega arith), λ j h. c.rest j (omega arith) (λ i l e. omega (arith, c.upto)), c.bare)

-- the list is cleared
abbrev pub ListCleared : (n settled : ℕ) (found work : List ℕ) → Type 0
ListCleared n settled found work =
    ((i : ℕ) → i < settled → get_or work (list_at n found i) 0 ≡ 0) × ((i : ℕ) → i < settled → get_or work (n + n - 1 - i) 0 ≡ 0)
    × ((j : ℕ) → n + n ≤ j → get_or work j 0 ≡ get_or found j 0) × ((j : ℕ) → get_or found j 0 ≡ 0 → get_or work j 0 ≡ 0)

pub list_cleared : {n settled : ℕ} {found : List ℕ} {k : ℕ} {work : List ℕ} → Clearing n settled (λ i. n + n - 1 - i) (list_at n found) found k work
    → settled ≤ k → ListCleared n settled found work
list_cleared c end =
    (λ i h. c.items i (omega arith), λ i h. c.words i (omega arith), λ j h. c.rest j (omega arith) (λ i l e. omega (arith, c.named.high i (omega (arith, l, c.upto)))), c.bare)

-- ---- both

module _ {n size settled last : ℕ} {found : List ℕ} (mid : List ℕ) (l : Laid n size settled last found) (heap : HeapCleared n size found mid) where
  -- the list is as it was
  list_same : (i : ℕ) → i < settled → list_at n mid i ≡ list_at n found i
  list_same i h = let room = laid_room l in at_list n mid found i (heap.2 (n + n - 1 - i) (omega arith))

  pub cleared_listed : (i : ℕ) → i < settled → list_at n mid i < n
  cleared_listed i h = rw (list_same i h) (l.listed i h)

  module _ (work : List ℕ) (list : ListCleared n settled mid work) where
    -- every entry is zero
    entry_bare : (c : ℕ) → c < n → get_or work c 0 ≡ 0
    entry_bare c h = by (dec_lt 0 (key_of (get_or found c 0))) (open_or_not n (get_or found c 0))
      where
        by : Dec (0 < key_of (get_or found c 0)) → Dec (In found n c) → get_or work c 0 ≡ 0
        by (no t) o = let none : key_of (get_or found c 0) ≡ 0 = omega arith in list.3 c (heap.3 c (l.bare c h none))
        by (yes t) (yes o) =
            let zero = heap.0 (slot_of (get_or found c 0)) (l.heaped.seated.within c h o) in
            list.3 c (ap (λ x. get_or mid x 0) (sym (l.heaped.seated.seats c h o)) ∙ zero)
        by (yes t) (no o) =
            let it = l.all c h (record { touched = t; out = o }) in
            ap (λ x. get_or work x 0) (sym (list_same it.0 it.1 ∙ it.2)) ∙ list.0 it.0 it.1

    -- and so is every word of the heap, of the list and between them
    word_bare : (j : ℕ) → n ≤ j → j < n + n → get_or work j 0 ≡ 0
    word_bare j h k = by (dec_lt j (n + size)) (dec_lt j (n + n - settled))
      where
        by : Dec (j < n + size) → Dec (j < n + n - settled) → get_or work j 0 ≡ 0
        by (yes a) b =
            let is : j ≡ n + (j - n) = omega arith in
            list.3 j (ap (λ x. get_or mid x 0) is ∙ heap.1 (j - n) (omega arith))
        by (no a) (yes b) = list.3 j (heap.3 j (l.gap j (omega arith) b))
        by (no a) (no b) =
            let room = laid_room l in
            let is : j ≡ n + n - 1 - (n + n - 1 - j) = omega arith in
            ap (λ x. get_or work x 0) is ∙ list.1 (n + n - 1 - j) (omega arith)

    pub cleared_bare : Bare (n + n) work
    unfolding Bare
    cleared_bare j h = by (dec_lt j n)
      where
        by : Dec (j < n) → get_or work j 0 ≡ 0
        by (yes k) = entry_bare j k
        by (no k) = word_bare j (omega arith) h

    -- what is past them is as found
    pub cleared_kept : length work ≡ length found → Beyond (n + n) work found
    cleared_kept long =
        let room = laid_room l in
        beyond_by long (λ j h. list.2 j h ∙ heap.2 j (omega arith))
