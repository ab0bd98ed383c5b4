-- Entries lowered to a key or a cost, in the words of the search.
--     Eased                      an entry lowered to a key, unless it is settled or no greater
--     eased_by                   an entry that the heap has lowered
--     eased_told, eased_costs    each key tells a cost, and the costs of lowered entries
use Prim.Native.Nat.{ℕ, suc, ◌+◌, ◌-◌, ◌*◌, ◌≤◌, ◌<◌}
use mathlib.Core.Path.{◌≡◌, sym, ap, ◌∙◌}
use mathlib.Core.Logic.{◌⊎◌, inl, inr}
use mathlib.Core.List.{List}
use native.Mathlib.Omega.{arith}
use native.Mathlib.Decide.{ℕ_discrete, dec_lt}
use lib.ListN.{get_or}
use Rattle.rules.specs.Prices.{Tech}
use Rattle.rules.specs.Joins.{places}
use Rattle.heap.specs.Heaps.{In, Lowered}
use Rattle.heap.proofs.Words.{open_or_not}
use Rattle.search.specs.Fronts.{left_at, costs}
use Rattle.search.specs.Lists.{Done}
use Rattle.search.specs.Spreads.{keys}
use Rattle.search.proofs.Costing.{costs_told, told_costs, cost_touched, same-costs}

-- below n, the entry of q is lowered to a key, unless it is settled or has no greater one
pub record Eased (n : ℕ) (key key' : ℕ → ℕ) (settled : ℕ → Type 0) (q to : ℕ) : Type 0 where
  pub lower : (c : ℕ) → c < n → 0 < key c → (0 < key' c) × (key' c ≤ key c)
  pub kept : (c : ℕ) → c < n → settled c → key' c ≡ key c
  pub there : 0 < key' q
  pub within : settled q ⊎ (key' q ≤ to)
  pub which : (c : ℕ) → c < n → (key' c ≡ key c) ⊎ ((c ≡ q) × (key' c ≡ to))

-- ---- an entry that the heap has lowered

module _ {n size item distance : ℕ} {found work : List ℕ} {now : ℕ} (w : Lowered n size item distance found work now) where
  -- what is known of the item
  record Here : Type 0 where
    there : 0 < keys work item
    lower : 0 < keys found item → keys work item ≤ keys found item
    kept : Done n found item → keys work item ≡ keys found item
    within : Done n found item ⊎ (keys work item ≤ suc distance)
    which : (keys work item ≡ keys found item) ⊎ (keys work item ≡ suc distance)

  here_new : keys found item ≡ 0 → Here
  here_new z =
      let (grown, inside, key) = w.new z in
      record {
        there = omega (arith, key);
        lower = λ some. omega arith;
        kept = λ done. absurd (omega (arith, done.touched));
        within = inr (omega (arith, key));
        which = inr (omega (arith, key));
      }

  here_same : (work ≡ found) → 0 < keys found item → Done n found item ⊎ (keys found item ≤ suc distance) → Here
  here_same same some within =
      let key : keys work item ≡ keys found item = ap (λ (l : List ℕ). keys l item) same in
      record {
        there = omega (arith, key);
        lower = λ some. omega (arith, key);
        kept = λ done. key;
        within = by within key;
        which = inl key;
      }
    where
      by : Done n found item ⊎ (keys found item ≤ suc distance) → keys work item ≡ keys found item → Done n found item ⊎ (keys work item ≤ suc distance)
      by (inl done) key = inl done
      by (inr less) key = inr (omega (arith, key))

  here_by : Here
  here_by = touched (dec_lt 0 (keys found item))
    where
      inside : 0 < keys found item → In found n item → Dec (distance + 1 < keys found item) → Here
      inside some in_heap_lem (yes less) =
          let (kept, in_after, key) = w.better in_heap_lem less in
          record {
            there = omega (arith, key);
            lower = λ some. omega (arith, key);
            kept = λ done. absurd (done.out in_heap_lem);
            within = inr (omega (arith, key));
            which = inr (omega (arith, key));
          }
      inside some in_heap_lem (no high) = here_same (w.same some (λ o. omega arith)).1 some (inr (omega arith))

      settled : 0 < keys found item → Dec (In found n item) → Here
      settled some (yes in_heap_lem) = inside some in_heap_lem (dec_lt (distance + 1) (keys found item))
      settled some (no out) = here_same (w.same some (λ o. absurd (out o))).1 some (inl (record { touched = some; out = out }))

      touched : Dec (0 < keys found item) → Here
      touched (no none) = here_new (omega arith)
      touched (yes some) = settled some (open_or_not n (get_or found item 0))

  pub eased_by : Eased n (keys found) (keys work) (Done n found) item (suc distance)
  eased_by =
      record {
        lower = λ c h some. lower c h some (ℕ_discrete c item);
        kept = λ c h done. kept c h done (ℕ_discrete c item);
        there = here_by.there;
        within = here_by.within;
        which = λ c h. which c h (ℕ_discrete c item) here_by.which;
      }
    where
      lower : (c : ℕ) → c < n → 0 < keys found c → Dec (c ≡ item) → (0 < keys work c) × (keys work c ≤ keys found c)
      lower c h some (no e) = let same = w.keys c h e in (omega (arith, same), omega (arith, same))
      lower c h some (yes e) = rw e (here_by.there, here_by.lower (rw e at some))

      kept : (c : ℕ) → c < n → Done n found c → Dec (c ≡ item) → keys work c ≡ keys found c
      kept c h done (no e) = w.keys c h e
      kept c h done (yes e) = rw e (here_by.kept (rw e at done))

      which : (c : ℕ) → c < n → Dec (c ≡ item) → (keys work item ≡ keys found item) ⊎ (keys work item ≡ suc distance)
          → (keys work c ≡ keys found c) ⊎ ((c ≡ item) × (keys work c ≡ suc distance))
      which c h (no e) d = inl (w.keys c h e)
      which c h (yes e) (inl same) = inl (rw e same)
      which c h (yes e) (inr new) = inr (e, rw e new)

-- ---- the costs of lowered entries

module _ (t : Tech) (bounds found work : List ℕ) {settled : ℕ → Type 0} (q cost : ℕ) (known : q < places t)
    (eased : Eased (places t) (keys found) (keys work) settled q (suc (16 * cost + left_at t bounds q)))
    (told : (c : ℕ) → c < places t → 0 < keys found c → 0 < costs t bounds found c) where
  -- the new key tells the new cost
  new_cost : (c : ℕ) → c ≡ q → keys work c ≡ suc (16 * cost + left_at t bounds q) → costs t bounds work c ≡ suc cost
  new_cost c one new = told_costs t bounds work c (new ∙ ap (λ (d : ℕ). suc (16 * cost + left_at t bounds d)) (sym one))

  -- a cost is as it was, or the new one
  cost_which : (c : ℕ) → c < places t → (costs t bounds work c ≡ costs t bounds found c) ⊎ ((c ≡ q) × (costs t bounds work c ≡ suc cost))
  cost_which c h = by (eased.which c h)
    where
      by : (keys work c ≡ keys found c) ⊎ ((c ≡ q) × (keys work c ≡ suc (16 * cost + left_at t bounds q)))
          → (costs t bounds work c ≡ costs t bounds found c) ⊎ ((c ≡ q) × (costs t bounds work c ≡ suc cost))
      by (inl same) = inl (same-costs t bounds work found c same)
      by (inr (one, new)) = inr (one, new_cost c one new)

  -- each key tells a cost
  pub eased_told : (c : ℕ) → c < places t → 0 < keys work c → 0 < costs t bounds work c
  eased_told c h some = by (eased.which c h) (cost_which c h)
    where
      by : (keys work c ≡ keys found c) ⊎ ((c ≡ q) × (keys work c ≡ suc (16 * cost + left_at t bounds q)))
          → (costs t bounds work c ≡ costs t bounds found c) ⊎ ((c ≡ q) × (costs t bounds work c ≡ suc cost)) → 0 < costs t bounds work c
      by d (inr (one, new)) = omega (arith, new)
      by (inl same) (inl also) = omega (arith, also, told c h (omega (arith, same)))
      by (inr (one, new)) (inl also) = omega (arith, new_cost c one new)

  -- a cost by its key
  cost_by : (l : List ℕ) (c : ℕ) → 0 < costs t bounds l c → keys l c ≡ suc (16 * (costs t bounds l c - 1) + left_at t bounds c)
  cost_by l c some = costs_told t bounds l c (omega arith)

  cost_lower : (c : ℕ) → c < places t → 0 < costs t bounds found c → (0 < costs t bounds work c) × (costs t bounds work c ≤ costs t bounds found c)
  cost_lower c h some =
      let (touched, less) = eased.lower c h (cost_touched t bounds found c some) in
      let there = eased_told c h touched in
      (there, omega (arith, less, cost_by found c some, cost_by work c there))

  pub eased_costs : Eased (places t) (costs t bounds found) (costs t bounds work) settled q (suc cost)
  eased_costs =
      let there = eased_told q known eased.there in
      record {
        lower = cost_lower;
        kept = λ c h done. same-costs t bounds work found c (eased.kept c h done);
        there = there;
        within = by there eased.within;
        which = cost_which;
      }
    where
      by : 0 < costs t bounds work q → settled q ⊎ (keys work q ≤ suc (16 * cost + left_at t bounds q)) → settled q ⊎ (costs t bounds work q ≤ suc cost)
      by there (inl done) = inl done
      by there (inr less) = inr (omega (arith, cost_by work q there))
