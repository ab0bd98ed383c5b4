-- How an item finds its seat. While it is moved its seat is a hole: the slice is told with the item put
-- there.
--     placed                       an item put at a seat with a key
--     Moved                        items of the heap have changed seats, and nothing else
--     Rising, Sinking              the order holds everywhere but at a seat, or but right below it
--     Lifted, Dropped              what sift_up and sift_down ask
--     Sifted                       what both do
--     Keyed, Lowest                seats in a row, and the one of them with the least key
--     Climbs, Least, Sinks         the seat that the item goes on to, where there is one
use Rattle.std.specs.Prelude.{ℕ, ◌+◌, ◌≤◌, ◌<◌, ◌≡◌, Option, Some, None, List, length, get_or, set}
use Rattle.heap.specs.Heaps.{most_items, key_of, word_of, In, item_at, key_at, above, Seated, Heaped}

-- an item put at a seat of the heap, with a key
unfoldable pub placed : (work : List ℕ) → (n at item key : ℕ) → List ℕ
placed work n at item key = set (set work item (word_of key at)) (n + at) (word_of key item)

-- items of the heap have changed seats, and nothing else
pub record Moved (n size : ℕ) (found work : List ℕ) : Type 0 where
  pub long : length work ≡ length found
  pub keys : (c : ℕ) → c < n → key_of (get_or work c 0) ≡ key_of (get_or found c 0)
  pub stays : (c : ℕ) → c < n → In found n c → In work n c
  pub still : (c : ℕ) → c < n → (In found n c → ⊥) → get_or work c 0 ≡ get_or found c 0
  pub beyond : (j : ℕ) → n + size ≤ j → get_or work j 0 ≡ get_or found j 0

-- and now they are in order
pub record Sifted (n size : ℕ) (found work : List ℕ) : Type 0 where
  pub heaped : Heaped n size work
  pub moved : Moved n size found work

-- ---- the order but for a seat; k is the key at each seat

-- the seat's key may be less than the one above, and what is below it is at least the one above
pub record Rising (size at : ℕ) (k : ℕ → ℕ) : Type 0 where
  pub known : at < size
  pub order : (i : ℕ) → 0 < i → i < size → (i ≡ at → ⊥) → k (above i) ≤ k i
  pub span : (i : ℕ) → 0 < at → 0 < i → i < size → above i ≡ at → k (above at) ≤ k i

-- the seat's key may be greater than those below, and these are at least the one above it
pub record Sinking (size at : ℕ) (k : ℕ → ℕ) : Type 0 where
  pub known : at < size
  pub order : (i : ℕ) → 0 < i → i < size → (above i ≡ at → ⊥) → k (above i) ≤ k i
  pub span : (i : ℕ) → 0 < at → 0 < i → i < size → above i ≡ at → k (above at) ≤ k i

-- ---- what the code asks and tells, of a slice with a hole

-- the item and the key that are to be put into the hole
pub record Lifted (n size at item key : ℕ) (work : List ℕ) : Type 0 where
  pub known : item < n
  pub seated : Seated n size (placed work n at item key)
  pub rising : Rising size at (key_at (placed work n at item key) n)

pub record Dropped (n size at item key : ℕ) (work : List ℕ) : Type 0 where
  pub known : item < n
  pub seated : Seated n size (placed work n at item key)
  pub sinking : Sinking size at (key_at (placed work n at item key) n)

-- every seat but one has an item
pub record Held (n size at : ℕ) (work : List ℕ) : Type 0 where
  pub room : n + n ≤ length work
  pub few : n ≤ most_items
  pub fits : size ≤ n
  pub known : at < size
  pub items : (i : ℕ) → i < size → (i ≡ at → ⊥) → item_at work n i < n
  pub agree : (i : ℕ) → i < size → (i ≡ at → ⊥) → key_of (get_or work (n + i) 0) ≡ key_at work n i

-- ---- seats in a row, from first to right before end

-- they have the keys of their items
pub record Keyed (n first end : ℕ) (work : List ℕ) : Type 0 where
  pub room : n + n ≤ length work
  pub few : n ≤ most_items
  pub fits : end ≤ n
  pub agree : (i : ℕ) → first ≤ i → i < end → key_of (get_or work (n + i) 0) ≡ key_at work n i

-- the one with the least key
pub record Lowest (n first end : ℕ) (work : List ℕ) (seat : ℕ) : Type 0 where
  pub from : first ≤ seat
  pub until : seat < end
  pub least : (i : ℕ) → first ≤ i → i < end → key_at work n seat ≤ key_at work n i

-- ---- the seat that the item goes on to

-- the seat above, where its item has a greater key
unfoldable pub Climbs : (n at key : ℕ) → (work : List ℕ) → (up : Option ℕ) → Type 0
Climbs n at key work (Some up) = (0 < at) × (up ≡ above at) × (key < key_at work n up)
Climbs n at key work None = 0 < at → key_at work n (above at) ≤ key

-- the child with the least key
pub record Least (n size at : ℕ) (work : List ℕ) (child : ℕ) : Type 0 where
  pub low : at < child
  pub known : child < size
  pub child_of : above child ≡ at
  pub least : (i : ℕ) → 0 < i → i < size → above i ≡ at → key_at work n child ≤ key_at work n i

-- that one, where its key is lesser
unfoldable pub Sinks : (n size at key : ℕ) → (work : List ℕ) → (down : Option ℕ) → Type 0
Sinks n size at key work (Some down) = Least n size at work down × (key_at work n down < key)
Sinks n size at key work None = (i : ℕ) → 0 < i → i < size → above i ≡ at → key ≤ key_at work n i
