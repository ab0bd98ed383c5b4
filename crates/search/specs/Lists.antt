-- The work slice during a search over n places: an entry for each, the heap from word n on, and the settled
-- places from word 2n - 1 down, in the order in which they were settled. Each place that was touched is in
-- the heap or in the list, so that these never meet.
--     list_at    the place settled after so many others
--     Done       a place is settled: touched, and out of the heap
--     Laid       how the slice is laid out
use Rattle.std.specs.Prelude.{ℕ, ◌+◌, ◌-◌, ◌≤◌, ◌<◌, ◌≡◌, List, get_or}
use Rattle.heap.specs.Heaps.{key_of, In, Heaped}

unfoldable pub list_at : (n : ℕ) → (work : List ℕ) → (i : ℕ) → ℕ
list_at n work i = get_or work (n + n - 1 - i) 0

pub record Done (n : ℕ) (work : List ℕ) (c : ℕ) : Type 0 where
  pub touched : 0 < key_of (get_or work c 0)
  pub out : In work n c → ⊥

-- no settled key is above `last`, and no open one below it
pub record Laid (n size settled last : ℕ) (work : List ℕ) : Type 0 where
  pub heaped : Heaped n size work
  pub listed : (i : ℕ) → i < settled → list_at n work i < n
  pub done : (i : ℕ) → i < settled → Done n work (list_at n work i)
  pub apart : (i j : ℕ) → i < settled → j < settled → list_at n work i ≡ list_at n work j → i ≡ j
  pub all : (c : ℕ) → c < n → Done n work c → (i : ℕ) × (i < settled) × (list_at n work i ≡ c)
  pub rising : (i j : ℕ) → i ≤ j → j < settled → key_of (get_or work (list_at n work i) 0) ≤ key_of (get_or work (list_at n work j) 0)
  pub settled_low : (c : ℕ) → c < n → Done n work c → key_of (get_or work c 0) ≤ last
  pub open_high : (c : ℕ) → c < n → In work n c → last ≤ key_of (get_or work c 0)
  pub gap : (j : ℕ) → n + size ≤ j → j < n + n - settled → get_or work j 0 ≡ 0
  pub bare : (c : ℕ) → c < n → key_of (get_or work c 0) ≡ 0 → get_or work c 0 ≡ 0
