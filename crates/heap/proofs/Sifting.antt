-- The loops. While an item finds its seat, that seat is a hole: L is the slice with the item put there.
--     hole_item, hole_key, own_key       items and keys beside the hole, and in it
--     hole_held                          what the tests ask
--     hole_swapped                       the hole moves: in L two seats have swapped their items
--     Climbing, climbing-..              the loop of sift_up
--     Falling, falling-..                the loop of sift_down
use Prim.Native.Nat.{ℕ, ◌+◌, ◌≤◌, ◌<◌}
use mathlib.Core.Path.{◌≡◌, sym, ap, ◌∙◌}
use Rattle.std.proofs.Common.{Some, None}
use mathlib.Core.List.{List}
use native.Mathlib.Omega.{arith}
use lib.ListN.{length, get_or}
use Rattle.heap.specs.Heaps.{most_items, greatest_key, key_of, slot_of, item_at, key_at, above, Seated}
use Rattle.heap.specs.Sifts.{placed, Moved, Sifted, Rising, Sinking, Held, Climbs, Least, Sinks}
use Rattle.heap.proofs.Words.{key_word, placed_long, placed_item, placed_agree, placed_word, placed_other}
use Rattle.heap.proofs.Orders.{rising_on, rising_done, sinking_on, sinking_done}
use Rattle.heap.proofs.Swaps.{seat_once, Swapped, swapped_keys, swapped_seated, swapped_moved}

-- what a store asks, and a move
abbrev pub PutAsked : (n at item key : ℕ) → (work : List ℕ) → Type 0
PutAsked n at item key work = (n ≤ most_items) × (n + n ≤ length work) × (at < n) × (item < n) × (key ≤ greatest_key)

abbrev pub ShiftAsked : (n from to : ℕ) → (work : List ℕ) → Type 0
ShiftAsked n from to work = (n ≤ most_items) × (n + n ≤ length work) × (from < n) × (to < n) × (item_at work n from < n) × (key_at work n from ≤ greatest_key)
    × (key_of (get_or work (n + from) 0) ≡ key_at work n from)

module _ {n size : ℕ} (work : List ℕ) (at item key : ℕ) (s : Seated n size (placed work n at item key)) (on : at < size) (known : item < n) where
  -- the slice is long enough
  hole_room : n + n ≤ length work
  hole_room = omega (arith, s.room, placed_long work n at item key)

  -- the item is in the hole
  hole_own : item_at (placed work n at item key) n at ≡ item
  hole_own = placed_item work n at item key (omega (arith, hole_room, s.fits)) (omega (arith, s.few))

  -- with its key
  pub own_key : key_at (placed work n at item key) n at ≡ key
  own_key =
      ap (λ c. key_of (get_or (placed work n at item key) c 0)) hole_own
      ∙ ap key_of (placed_word work n at item key known (omega (arith, hole_room)))
      ∙ key_word key at (omega (arith, s.fits, s.few))

  module _ (i : ℕ) (h : i < size) (e : i ≡ at → ⊥) where
    -- elsewhere the item is the same
    hole_seat : get_or work (n + i) 0 ≡ get_or (placed work n at item key) (n + i) 0
    hole_seat = sym (placed_other work n at item key (n + i) (omega arith) (omega arith))

    pub hole_item : item_at work n i ≡ item_at (placed work n at item key) n i
    hole_item = ap slot_of hole_seat

    -- and is another
    hole_other : item_at (placed work n at item key) n i ≡ item → ⊥
    hole_other f = e (seat_once s h on (f ∙ sym hole_own))

    -- and so is its key
    pub hole_key : key_at work n i ≡ key_at (placed work n at item key) n i
    hole_key =
        ap (λ c. key_of (get_or work c 0)) hole_item
        ∙ ap key_of (sym (placed_other work n at item key (item_at (placed work n at item key) n i) hole_other (omega (arith, s.items i h))))

    -- which stands at the seat
    hole_agree : key_of (get_or work (n + i) 0) ≡ key_at work n i
    hole_agree = ap key_of hole_seat ∙ s.agree i h ∙ sym hole_key

  -- what the tests ask
  pub hole_held : Held n size at work
  hole_held = record { room = hole_room; few = s.few; fits = s.fits; known = on; items = λ i h e. rw (hole_item i h e) (s.items i h); agree = hole_agree }

  -- what the store of the item asks
  pub hole_put : PutAsked n at item key work
  hole_put =
      let small = s.small (item_at (placed work n at item key) n at) (s.items at on) in
      (s.few, hole_room, omega (arith, s.fits), known, omega (arith, small, own_key))

  -- and the move of an item into the hole
  pub hole_shift : (b : ℕ) → b < size → (b ≡ at → ⊥) → ShiftAsked n b at work
  hole_shift b h e =
      let below = s.items b h in
      let small = s.small (item_at (placed work n at item key) n b) below in
      (s.few, hole_room, omega (arith, s.fits), omega (arith, s.fits), omega (arith, below, hole_item b h e), omega (arith, small, hole_key b h e), hole_agree b h e)

  -- the hole moves to b, and the item there into it
  module _ (b : ℕ) (hb : b < size) (e : b ≡ at → ⊥) where
    pub hole_swapped : Swapped n at b (placed work n at item key) (placed (placed work n at (item_at work n b) (key_at work n b)) n b item key)
    hole_swapped =
        let q = item_at work n b in
        let k = key_at work n b in
        let next = placed work n at q k in
        let same : q ≡ item_at (placed work n at item key) n b = hole_item b hb e in
        let other : q ≡ item → ⊥ = λ f. hole_other b hb e (sym same ∙ f) in
        let below : q < n = rw same (s.items b hb) in
        let long = placed_long work n at q k in
        let room = hole_room in
        let stays = placed_other next n b item key (n + at) (omega arith) (omega arith) in
        record {
          long = placed_long next n b item key ∙ long ∙ sym (placed_long work n at item key);
          first = ap slot_of stays ∙ placed_item work n at q k (omega (arith, s.fits)) (omega (arith, s.few)) ∙ same;
          second = placed_item next n b item key (omega (arith, s.fits)) (omega (arith, s.few)) ∙ sym hole_own;
          agree_first = ap key_of stays ∙ placed_agree work n at q k (omega (arith, s.fits)) (omega (arith, s.few)) ∙ hole_key b hb e;
          agree_second = placed_agree next n b item key (omega (arith, s.fits)) (omega (arith, s.few)) ∙ sym own_key;
          word_first = rw (own_key, hole_own) (placed_word next n b item key known (omega arith));
          word_second =
              rw (sym (hole_key b hb e), sym same)
              (placed_other next n b item key q other (omega arith) ∙ placed_word work n at q k below (omega arith));
          seats = λ i x y.
              placed_other next n b item key (n + i) (omega arith) (omega arith)
              ∙ placed_other work n at q k (n + i) (omega arith) (omega arith)
              ∙ sym (placed_other work n at item key (n + i) (omega arith) (omega arith));
          words = λ c h x y.
              let not_own : c ≡ item → ⊥ = λ f. x (f ∙ sym hole_own) in
              placed_other next n b item key c not_own (omega arith)
              ∙ placed_other work n at q k c (λ f. y (f ∙ same)) (omega arith)
              ∙ sym (placed_other work n at item key c not_own (omega arith));
        }

-- ---- up

-- the item rises
pub record Climbing (n size item key : ℕ) (found work : List ℕ) (at : ℕ) : Type 0 where
  pub known : item < n
  pub seated : Seated n size (placed work n at item key)
  pub rising : Rising size at (key_at (placed work n at item key) n)
  pub moved : Moved n size found (placed work n at item key)

module _ {n size item key : ℕ} {found work : List ℕ} {at : ℕ} (c : Climbing n size item key found work at) where
  -- what the test asks
  pub climbing_held : Held n size at work
  climbing_held = hole_held work at item key c.seated c.rising.known c.known

  -- what the store at the end asks
  pub climbing_put : PutAsked n at item key work
  climbing_put = hole_put work at item key c.seated c.rising.known c.known

  -- what the move of the item above asks
  pub climbing_asked : {up : ℕ} → Climbs n at key work (Some up) → ShiftAsked n up at work
  unfolding Climbs
  climbing_asked {up} t =
      hole_shift work at item key c.seated c.rising.known c.known up (omega (arith, t, c.rising.known)) (omega (arith, t))

  -- a seat up
  pub climbing_on : {left : List ℕ} {up : ℕ} → Climbs n at key work (Some up) → left ≡ placed work n at (item_at work n up) (key_at work n up)
      → Climbing n size item key found left up
  unfolding Climbs
  climbing_on {left} {up} t e =
      rw (e, t.1)
      (record {
        known = c.known;
        seated = swapped_seated s on h swapped;
        rising = rising_on c.rising low (omega (arith, less, own_key work at item key s on c.known, hole_key work at item key s on c.known (above at) h away)) (swapped_keys s on h swapped);
        moved = swapped_moved s on h swapped c.moved;
      })
    where
      s : Seated n size (placed work n at item key)
      s = c.seated

      on : at < size
      on = c.rising.known

      low : 0 < at
      low = t.0

      less : key < key_at work n (above at)
      less = rw t.1 at t.2

      h : above at < size
      h = omega (arith, on)

      away : above at ≡ at → ⊥
      away = omega (arith, low)

      swapped : Swapped n at (above at) (placed work n at item key) (placed (placed work n at (item_at work n (above at)) (key_at work n (above at))) n (above at) item key)
      swapped = hole_swapped work at item key s on c.known (above at) h away

  -- in its seat
  pub climbing_done : {left : List ℕ} → Climbs n at key work None → left ≡ placed work n at item key → Sifted n size found left
  unfolding Climbs
  climbing_done {left} t e =
      rw e
      (record {
        heaped =
            record {
              seated = s;
              order = rising_done c.rising (λ low. omega (arith, t low, own_key work at item key s on c.known, hole_key work at item key s on c.known (above at) (omega (arith, on)) (omega arith)));
            };
        moved = c.moved;
      })
    where
      s : Seated n size (placed work n at item key)
      s = c.seated

      on : at < size
      on = c.rising.known

-- ---- down

-- the item sinks
pub record Falling (n size item key : ℕ) (found work : List ℕ) (at : ℕ) : Type 0 where
  pub known : item < n
  pub seated : Seated n size (placed work n at item key)
  pub sinking : Sinking size at (key_at (placed work n at item key) n)
  pub moved : Moved n size found (placed work n at item key)

module _ {n size item key : ℕ} {found work : List ℕ} {at : ℕ} (c : Falling n size item key found work at) where
  -- what the test asks
  pub falling_held : Held n size at work
  falling_held = hole_held work at item key c.seated c.sinking.known c.known

  -- what the store at the end asks
  pub falling_put : PutAsked n at item key work
  falling_put = hole_put work at item key c.seated c.sinking.known c.known

  -- what the move of the item below asks
  pub falling_asked : {child : ℕ} → Least n size at work child → ShiftAsked n child at work
  unfolding Sinks
  falling_asked {child} l = hole_shift work at item key c.seated c.sinking.known c.known child l.known (omega (arith, l.low))

  -- a seat down
  pub falling_on : {left : List ℕ} {child : ℕ} → Sinks n size at key work (Some child) → left ≡ placed work n at (item_at work n child) (key_at work n child)
      → Falling n size item key found left child
  unfolding Sinks
  falling_on {left} {child} t e =
      rw e
      (record {
        known = c.known;
        seated = swapped_seated s on h swapped;
        sinking = sinking_on c.sinking low h of least (omega (arith, t.1, own_key work at item key s on c.known, beside child h away)) (swapped_keys s on h swapped);
        moved = swapped_moved s on h swapped c.moved;
      })
    where
      s : Seated n size (placed work n at item key)
      s = c.seated

      on : at < size
      on = c.sinking.known

      h : child < size
      h = t.0.known

      low : at < child
      low = t.0.low

      of : above child ≡ at
      of = t.0.child_of

      away : child ≡ at → ⊥
      away = omega (arith, low)

      beside : (i : ℕ) (l : i < size) (x : i ≡ at → ⊥) → key_at work n i ≡ key_at (placed work n at item key) n i
      beside i l x = hole_key work at item key s on c.known i l x

      least : (i : ℕ) → 0 < i → i < size → above i ≡ at → key_at (placed work n at item key) n child ≤ key_at (placed work n at item key) n i
      least i p y x = omega (arith, t.0.least i p y x, beside child h away, beside i y (omega arith))

      swapped : Swapped n at child (placed work n at item key) (placed (placed work n at (item_at work n child) (key_at work n child)) n child item key)
      swapped = hole_swapped work at item key s on c.known child h away

  -- in its seat
  pub falling_done : {left : List ℕ} → Sinks n size at key work None → left ≡ placed work n at item key → Sifted n size found left
  unfolding Sinks
  falling_done {left} t e =
      rw e
      (record {
        heaped =
            record {
              seated = s;
              order = sinking_done c.sinking (λ i p l x. omega (arith, t i p l x, own_key work at item key s on c.known, hole_key work at item key s on c.known i l (omega arith)));
            };
        moved = c.moved;
      })
    where
      s : Seated n size (placed work n at item key)
      s = c.seated

      on : at < size
      on = c.sinking.known
