-- What `best` chooses.
--     best_chooses     the lowest number with the least finite cost, or none
--     best_only        and nothing else is that
--     best-same        costs that agree have the same best
use Prim.Native.Nat.{ℕ, zero, suc, ◌≤◌, ◌<◌}
use native.Mathlib.Omega.{arith}
use native.Mathlib.Decide.{ℕ_discrete, dec_lt}
use mathlib.Core.Path.{◌≡◌, refl, sym, ap, ◌∙◌}
use borrow.Author.Tests.{lt-ltb, le-ltb}
use Rattle.paths.specs.Costs.{Cost, fin, inf}
use Rattle.paths.specs.Tables.{within}
use Rattle.paths.specs.Starts.{Choice, none, first, or_next, best}
use Rattle.paths.specs.Foremost.{Chosen, Chooses}
use Rattle.paths.proofs.Costs.{inf_not_fin, within_trans}

-- what holds below n and at n holds below suc n
one_more : (P : ℕ → Type 0) (n : ℕ) → ((j : ℕ) → j < n → P j) → P n → (j : ℕ) → j < suc n → P j
one_more P n below here j h = by (ℕ_discrete j n)
  where
    by : Dec (j ≡ n) → P j
    by (yes e) = rw e here
    by (no e) = below j (omega arith)

module _ (E : ℕ → Cost) where
  -- the choice stands where the next is no cheaper
  chosen_still : (n i c : ℕ) → Chosen E n i c → within (fin c) (E n) → Chosen E (suc n) i c
  chosen_still n i c h dear = record {
    below = omega (arith, h.below);
    cost = h.cost;
    least = one_more (λ j. within (fin c) (E j)) n h.least dear;
    lowest = h.lowest;
  }

  -- the next is chosen where all before are dearer
  chosen_next : (n d : ℕ) → E n ≡ fin d → ((j : ℕ) → j < n → within (fin (suc d)) (E j)) → Chosen E (suc n) n d
  chosen_next n d e dear = record {
    below = omega arith;
    cost = e;
    least = one_more (λ j. within (fin d) (E j)) n (λ j small. within_trans (fin d) (fin (suc d)) (E j) (omega arith) (dear j small)) (rw e (omega arith));
    lowest = λ j small is. let up : within (fin (suc d)) (fin d) = rw is at (dear j small) in omega arith;
  }

  -- one number more
  chooses_next : (n : ℕ) (b : Choice) (v : Cost) → E n ≡ v → Chooses E n b → Chooses E (suc n) (or_next b n v)
  unfolding or_next
  chooses_next n none inf e h = one_more (λ j. E j ≡ inf) n h e
  chooses_next n none (fin d) e h = chosen_next n d e (λ j small. rw (h j small) tt)
  chooses_next n (first i c) inf e h = chosen_still n i c h (rw e tt)
  chooses_next n (first i c) (fin d) e h = by (dec_lt d c)
    where
      by : Dec (d < c) → Chooses E (suc n) (or_next (first i c) n (fin d))
      by (yes less) = rw (lt-ltb d c less) (chosen_next n d e (λ j small. within_trans (fin (suc d)) (fin c) (E j) less (h.least j small)))
      by (no less) = rw (le-ltb d c (omega arith)) (chosen_still n i c h (rw e (omega arith)))

  -- best chooses the lowest number with the least finite cost, or none
  pub best_chooses : (n : ℕ) → Chooses E n (best E n)
  unfolding best
  best_chooses zero = λ j small. absurd (omega arith)
  best_chooses (suc n) = chooses_next n (best E n) (E n) refl (best_chooses n)

  -- a number is chosen or none, not both
  not_both : {n i c : ℕ} → Chosen E n i c → Chooses E n none → ⊥
  not_both h all = inf_not_fin (sym (all _ h.below) ∙ h.cost)

  -- of two choices the costs are ordered
  chosen_cost : {n i c j d : ℕ} → Chosen E n i c → Chosen E n j d → c ≤ d
  chosen_cost h k = rw k.cost at (h.least _ k.below)

  -- two choices are one
  chooses_only : (n : ℕ) (a b : Choice) → Chooses E n a → Chooses E n b → a ≡ b
  chooses_only n none none h k = refl
  chooses_only n none (first j d) h k = absurd (not_both k h)
  chooses_only n (first i c) none h k = absurd (not_both h k)
  chooses_only n (first i c) (first j d) h k = by (ℕ_discrete i j) (dec_lt i j)
    where
      same : c ≡ d
      same = omega (arith, chosen_cost h k, chosen_cost k h)

      by : Dec (i ≡ j) → Dec (i < j) → first i c ≡ first j d
      by (yes e) less = cc same
      by (no e) (yes less) = absurd (k.lowest i less (h.cost ∙ ap fin same))
      by (no e) (no less) = absurd (h.lowest j (omega arith) (k.cost ∙ ap fin (sym same)))

  -- and nothing else is that
  pub best_only : (n : ℕ) (b : Choice) → Chooses E n b → b ≡ best E n
  best_only n b h = chooses_only n b (best E n) h (best_chooses n)

-- costs that agree have the same best
pub best-same : (E F : ℕ → Cost) (n : ℕ) → ((j : ℕ) → j < n → E j ≡ F j) → best E n ≡ best F n
unfolding best
best-same E F zero same = refl
best-same E F (suc n) same = rw (best-same E F n (λ j below. same j (omega arith)), same n (omega arith))
