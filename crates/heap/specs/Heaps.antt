-- An indexed heap in a lent slice of words, over n items numbered from 0. Word c (c < n) is the entry of item
-- c: its key and its slot. The key is 0 where the item was never touched, else its distance and 1; the slot
-- is the item's seat in the heap, or n or more where it has left it (it is settled). Word n + i is for seat i
-- of the heap: the key of the item there, and in the slot's stead its number, so that keys are compared in
-- the heap's words alone. What the items are is not said here.
--     slots, settled_slot, most_items, greatest_key    the sizes of an entry's parts
--     key_of, slot_of, word_of                         the key and the slot of an entry, and an entry of the
--                                                      two
--     item_at, key_at                                  the item at a seat, and its key
--     above                                            the seat above a seat: four seats are below each
--     Open, In                                         an entry's item is in the heap
--     Seated                                           each item of the heap knows its seat
--     Heaped                                           and none has a lesser key than the one above it
--     Lowered                                          what `lower` does
--     Removed                                          what `remove_least` does
use Rattle.std.specs.Prelude.{ℕ, ◌+◌, ◌-◌, ◌*◌, ◌/◌, ◌%◌, ◌≤◌, ◌<◌, ◌≡◌, List, length, get_or}

-- ---- entries

-- how many slots an entry can name: its key stands above them
abbrev pub slots : ℕ
slots = 1048576

-- the slot of an item that has left the heap
abbrev pub settled_slot : ℕ
settled_slot = 1048575

-- so many items have seats below the slots of those that have left
abbrev pub most_items : ℕ
most_items = 524288

-- with the slots below it, it fits a word
abbrev pub greatest_key : ℕ
greatest_key = 2199023255552

-- the key of an entry
unfoldable pub key_of : (word : ℕ) → ℕ
key_of word = word / slots

-- its slot
unfoldable pub slot_of : (word : ℕ) → ℕ
slot_of word = word % slots

-- an entry of the two
unfoldable pub word_of : (key slot : ℕ) → ℕ
word_of key slot = key * slots + slot

-- the entry says that its item is in the heap
pub record Open (n word : ℕ) : Type 0 where
  pub touched : 0 < key_of word
  pub placed : slot_of word < n

-- an item is in the heap
abbrev pub In : (work : List ℕ) → (n c : ℕ) → Type 0
In work n c = Open n (get_or work c 0)

-- ---- seats

-- the item at a seat
abbrev pub item_at : (work : List ℕ) → (n i : ℕ) → ℕ
item_at work n i = slot_of (get_or work (n + i) 0)

-- its key
abbrev pub key_at : (work : List ℕ) → (n i : ℕ) → ℕ
key_at work n i = key_of (get_or work (item_at work n i) 0)

-- the seat above a seat: right below seat i are seats 4 * i + 1 to 4 * i + 4
abbrev pub above : ℕ → ℕ
above i = (i - 1) / 4

-- ---- the heap

-- the item at each seat is in the heap with that seat as its slot, and each item in the heap stands at its
-- slot
pub record Seated (n size : ℕ) (work : List ℕ) : Type 0 where
  pub room : n + n ≤ length work
  pub few : n ≤ most_items
  pub fits : size ≤ n
  pub small : (c : ℕ) → c < n → key_of (get_or work c 0) ≤ greatest_key
  pub items : (i : ℕ) → i < size → item_at work n i < n
  pub touched : (i : ℕ) → i < size → 0 < key_at work n i
  pub slots : (i : ℕ) → i < size → slot_of (get_or work (item_at work n i) 0) ≡ i
  pub agree : (i : ℕ) → i < size → key_of (get_or work (n + i) 0) ≡ key_at work n i
  pub within : (c : ℕ) → c < n → In work n c → slot_of (get_or work c 0) < size
  pub seats : (c : ℕ) → c < n → In work n c → item_at work n (slot_of (get_or work c 0)) ≡ c

-- and the key above each seat is at most the key there
pub record Heaped (n size : ℕ) (work : List ℕ) : Type 0 where
  pub seated : Seated n size work
  pub order : (i : ℕ) → 0 < i → i < size → key_at work n (above i) ≤ key_at work n i

-- ---- what is done to it

-- An item that was never touched is put in, and one in the heap with a greater key is given the lesser; else
-- nothing changes. The other items keep their keys, and are in the heap as before.
pub record Lowered (n size item distance : ℕ) (found work : List ℕ) (now : ℕ) : Type 0 where
  pub heaped : Heaped n now work
  pub long : length work ≡ length found
  pub new : key_of (get_or found item 0) ≡ 0 → (now ≡ size + 1) × In work n item × (key_of (get_or work item 0) ≡ distance + 1)
  pub better : In found n item → distance + 1 < key_of (get_or found item 0) → (now ≡ size) × In work n item × (key_of (get_or work item 0) ≡ distance + 1)
  pub same : 0 < key_of (get_or found item 0) → (In found n item → key_of (get_or found item 0) ≤ distance + 1) → (now ≡ size) × (work ≡ found)
  pub keys : (c : ℕ) → c < n → (c ≡ item → ⊥) → key_of (get_or work c 0) ≡ key_of (get_or found c 0)
  pub stays : (c : ℕ) → c < n → (c ≡ item → ⊥) → In found n c → In work n c
  pub still : (c : ℕ) → c < n → (c ≡ item → ⊥) → (In found n c → ⊥) → get_or work c 0 ≡ get_or found c 0
  pub beyond : (j : ℕ) → n + now ≤ j → get_or work j 0 ≡ get_or found j 0

-- An item of the heap with the least key is removed. Every item keeps its key, and the others are in the
-- heap as before. The word of the seat that is no longer in the heap is left zero.
pub record Removed (n size item : ℕ) (found work : List ℕ) : Type 0 where
  pub heaped : Heaped n (size - 1) work
  pub long : length work ≡ length found
  pub known : item < n
  pub was : In found n item
  pub least : (c : ℕ) → c < n → In found n c → key_of (get_or found item 0) ≤ key_of (get_or found c 0)
  pub gone : In work n item → ⊥
  pub slot : slot_of (get_or work item 0) ≡ settled_slot
  pub keys : (c : ℕ) → c < n → key_of (get_or work c 0) ≡ key_of (get_or found c 0)
  pub stays : (c : ℕ) → c < n → (c ≡ item → ⊥) → In found n c → In work n c
  pub still : (c : ℕ) → c < n → (In found n c → ⊥) → get_or work c 0 ≡ get_or found c 0
  pub empty : get_or work (n + (size - 1)) 0 ≡ 0
  pub beyond : (j : ℕ) → n + size ≤ j → get_or work j 0 ≡ get_or found j 0
