-- Of seats in a row the one with the least key.
--     lowest_one                     of one seat
--     lowest_left, lowest_right      of two rows that meet
--     lowest_pair, lowest_four       of two seats, and of four
use Prim.Native.Nat.{ℕ, ◌+◌, ◌≤◌, ◌<◌, min}
use mathlib.Core.Path.{◌≡◌, refl, ap, ◌∙◌}
use mathlib.Core.List.{List}
use native.Mathlib.Nat.{le_refl}
use native.Mathlib.Omega.{arith}
use native.Mathlib.Decide.{dec_lt}
use lib.ListN.{get_or}
use lib.Dec.{ltb}
use borrow.Author.Tests.{lt-ltb, le-ltb}
use mir.Val.{bool_byte}
use Rattle.heap.specs.Heaps.{key_of, key_at}
use Rattle.heap.specs.Sifts.{Keyed, Lowest}
use Rattle.heap.proofs.Words.{word_key}

module _ {n : ℕ} {work : List ℕ} where
  -- of one seat
  pub lowest_one : (first : ℕ) {end : ℕ} → end ≡ first + 1 → Lowest n first end work first
  lowest_one first e =
      record {
        from = le_refl first;
        until = omega arith;
        least = λ i l h. let same : i ≡ first = omega arith in rw same (le_refl (key_at work n first));
      }

  module _ {first middle end i j : ℕ} (a : Lowest n first middle work i) (b : Lowest n middle end work j) where
    -- of two rows that meet, where the second has the lesser key
    pub lowest_right : key_at work n j ≤ key_at work n i → Lowest n first end work j
    lowest_right less =
        record { from = omega (arith, a.from, a.until, b.from); until = b.until; least = λ p l h. by p l h (dec_lt p middle) }
      where
        by : (p : ℕ) → first ≤ p → p < end → Dec (p < middle) → key_at work n j ≤ key_at work n p
        by p l h (yes x) = omega (arith, a.least p l x)
        by p l h (no x) = b.least p (omega arith) h

    -- or the first
    pub lowest_left : key_at work n i ≤ key_at work n j → Lowest n first end work i
    lowest_left less =
        record { from = a.from; until = omega (arith, a.until, b.from, b.until); least = λ p l h. by p l h (dec_lt p middle) }
      where
        by : (p : ℕ) → first ≤ p → p < end → Dec (p < middle) → key_at work n i ≤ key_at work n p
        by p l h (yes x) = a.least p l x
        by p l h (no x) = omega (arith, b.least p (omega arith) h)

  module _ {first end : ℕ} (keyed : Keyed n first end work) where
    -- of two of these seats, with its word: the lesser word has no greater key
    lowest_pair : (one other : ℕ) {a b step word : ℕ} → first ≤ one → other ≡ one + 1 → other < end → a ≡ get_or work (n + one) 0 → b ≡ get_or work (n + other) 0
        → step ≡ bool_byte (ltb b a) → word ≡ min a b → (Lowest n one (one + 2) work (one + step)) × (word ≡ get_or work (n + (one + step)) 0)
    lowest_pair one other {a} {b} {step} {word} from next until x y is low = by (dec_lt b a)
      where
        left : Lowest n one other work one
        left = lowest_one one next

        right : Lowest n other (one + 2) work other
        right = lowest_one other (omega arith)

        own : key_of a ≡ key_at work n one
        own = ap key_of x ∙ keyed.agree one from (omega arith)

        its : key_of b ≡ key_at work n other
        its = ap key_of y ∙ keyed.agree other (omega arith) until

        by : Dec (b < a) → (Lowest n one (one + 2) work (one + step)) × (word ≡ get_or work (n + (one + step)) 0)
        by (yes h) =
            let seat : one + step ≡ other = omega (arith, rw (lt-ltb b a h) at is) in
            rw seat (lowest_right left right (omega (arith, own, its, word_key b a (omega arith))), omega (arith, low, y, h))
        by (no h) =
            let seat : one + step ≡ one = omega (arith, rw (le-ltb b a (omega arith)) at is) in
            rw seat (lowest_left left right (omega (arith, own, its, word_key a b (omega arith))), omega (arith, low, x, h))

    -- of four seats, the lesser of the two that each pair leaves
    pub lowest_four : {a b c d i j ab cd : ℕ} → end ≡ first + 4 → a ≡ get_or work (n + first) 0 → b ≡ get_or work (n + (first + 1)) 0
        → c ≡ get_or work (n + (first + 2)) 0 → d ≡ get_or work (n + (first + 3)) 0 → i ≡ bool_byte (ltb b a) → j ≡ bool_byte (ltb d c)
        → ab ≡ min a b → cd ≡ min c d
        → (cd < ab → Lowest n first end work (first + 2 + j)) × (ab ≤ cd → Lowest n first end work (first + i))
    lowest_four {a} {b} {c} {d} {i} {j} {ab} {cd} four wa wb wc wd is js low high =
        (λ h. lowest_right front back (key (omega (arith, h)) back_word front_word back_in front_in), λ h. lowest_left front back (key h front_word back_word front_in back_in))
      where
        pair_front : (Lowest n first (first + 2) work (first + i)) × (ab ≡ get_or work (n + (first + i)) 0)
        pair_front = lowest_pair first (first + 1) (le_refl first) refl (omega arith) wa wb is low

        pair_back : (Lowest n (first + 2) (first + 2 + 2) work (first + 2 + j)) × (cd ≡ get_or work (n + (first + 2 + j)) 0)
        pair_back = lowest_pair (first + 2) (first + 3) (omega arith) (omega arith) (omega arith) wc wd js high

        front : Lowest n first (first + 2) work (first + i)
        front = pair_front.0

        back : Lowest n (first + 2) end work (first + 2 + j)
        back = let same : first + 2 + 2 ≡ end = omega arith in (rw same at pair_back).0

        front_word : ab ≡ get_or work (n + (first + i)) 0
        front_word = pair_front.1

        back_word : cd ≡ get_or work (n + (first + 2 + j)) 0
        back_word = pair_back.1

        front_in : (first ≤ first + i) × (first + i < end)
        front_in = (front.from, omega (arith, front.until))

        back_in : (first ≤ first + 2 + j) × (first + 2 + j < end)
        back_in = (omega (arith, back.from), back.until)

        key : {v w x y : ℕ} → v ≤ w → v ≡ get_or work (n + x) 0 → w ≡ get_or work (n + y) 0 → (first ≤ x) × (x < end) → (first ≤ y) × (y < end)
            → key_at work n x ≤ key_at work n y
        key {v} {w} {x} {y} h e f in-x in-y =
            omega (arith, word_key v w h, ap key_of e ∙ keyed.agree x in-x.0 in-x.1, ap key_of f ∙ keyed.agree y in-y.0 in-y.1)
