-- The counts of moves, with one move more at the end.
--     end_of, end_then    the vertex that they end at
--     walk_then           their counts
--     counted_then        a report with these added
--     move_fit            how large its numbers grow
use Prim.Native.Nat.{ℕ, ◌+◌, ◌^◌, ◌≤◌}
use mathlib.Core.Path.{◌≡◌, refl, sym, ap, ◌∙◌}
use mathlib.Core.List.{List, [], ◌∷◌, ◌++◌, append_assoc, append-nil}
use native.Mathlib.Omega.{arith}
use Rattle.job.specs.Lists.{All}
use Rattle.job.specs.Grid.{Grid}
use Rattle.rules.specs.Views.{View}
use Rattle.rules.specs.Steps.{Made}
use Rattle.counts.specs.Counts.{Count, counted, move_counts, walk_counts}
use Rattle.counts.specs.Structs.{CountsFit}
use Rattle.counts.proofs.Adding.{counted-append, counted_fit}
use Rattle.counts.proofs.Counting.{fit_under, way_one, one_few}

-- the vertex that moves from one end at
unfoldable pub end_of : (from : ℕ) → List Made → ℕ
end_of v [] = v
end_of v (m ∷ ms) = end_of m.next.vertex ms

-- with one more it is the one that this enters
pub end_then : (v : ℕ) (ms : List Made) (m : Made) → end_of v (ms ++ (m ∷ [])) ≡ m.next.vertex
unfolding end_of
end_then v [] m = refl
end_then v (x ∷ xs) m = end_then x.next.vertex xs m

module _ (g : Grid) (view : View) where
  -- the counts of moves and of one more
  pub walk_then : (v : ℕ) (ms : List Made) (m : Made)
      → walk_counts g view v (ms ++ (m ∷ [])) ≡ walk_counts g view v ms ++ move_counts g view (end_of v ms) m
  unfolding walk_counts end_of
  walk_then v [] m = append-nil (move_counts g view v m)
  walk_then v (x ∷ xs) m =
      ap (λ (cs : List Count). move_counts g view v x ++ cs) (walk_then x.next.vertex xs m)
      ∙ sym (append_assoc (move_counts g view v x) (walk_counts g view x.next.vertex xs) (move_counts g view (end_of x.next.vertex xs) m))

  -- a report with them added
  pub counted_then : (v : ℕ) (ms : List Made) (m : Made) (before : List ℕ) {counts after : List ℕ}
      → counts ≡ counted (walk_counts g view v ms) before → after ≡ counted (move_counts g view (end_of v ms) m) counts
      → after ≡ counted (walk_counts g view v (ms ++ (m ∷ []))) before
  counted_then v ms m before so_far more =
      more ∙ ap (counted (move_counts g view (end_of v ms) m)) so_far
      ∙ sym (ap (λ (cs : List Count). counted cs before) (walk_then v ms m) ∙ counted-append (walk_counts g view v ms) (move_counts g view (end_of v ms) m) before)

  -- five counts below 2^20
  pub move_fit : (v : ℕ) (m : Made) (counts : List ℕ) {most : ℕ} → m.added ≤ 2 ^ 20 → m.penalties ≤ 2 ^ 20 → CountsFit most counts
      → CountsFit (most + 2 ^ 23) (counted (move_counts g view v m) counts)
  unfolding move_counts All
  move_fit v m counts {most} added penalties fit =
      fit_under _ (counted_fit most (2 ^ 20) (move_counts g view v m) counts
      (rw way_one (omega arith), (added, (penalties, (one_few _, (one_few _, tt))))) fit) (omega arith)
