-- What `dist` says in so many moves.
--     dist_goal, dist_none, dist_on     what `dist` is at a goal, with no move left, and elsewhere
--     dist_bounds                       a rival of at most k moves costs at least dist k
--     dist_rest                         a finite dist k is the cost of what is left, in at most k moves
--     dist_reached                      so at no goal it is the cost of a route of at most k moves
use Prim.Native.Nat.{ℕ, zero, suc, ◌+◌, ◌≤◌}
use native.Mathlib.Omega.{arith}
use native.Mathlib.Nat.{add-zero}
use mathlib.Core.Path.{◌≡◌, refl, sym, ◌∙◌}
use mathlib.Core.List.{List, [], ◌∷◌}
use mathlib.Core.Bool.{Bool, true, false}
use lib.ListN.{length}
use Rattle.paths.specs.Systems.{System, Legal}
use Rattle.paths.specs.Rivals.{Rival, Route}
use Rattle.paths.specs.Distances.{least_of, through, dist}
use Rattle.paths.specs.Costs.{Cost, fin, inf}
use Rattle.paths.specs.Tables.{within}
use Rattle.paths.proofs.Costs.{inf_not_fin, within_trans, plus-within, through_fin, least_of_below, least_of_one}
use Rattle.paths.proofs.Routes.{Rest, done, more, rest_route, rest_more}

module _ (S : System) where
  -- 0 at a goal
  pub dist_goal : (k : ℕ) {s : S.Place} → S.goal s ≡ true → dist S k s ≡ fin 0
  unfolding dist
  dist_goal zero e = rw e
  dist_goal (suc k) e = rw e

  -- with no move left, none
  dist_none : {s : S.Place} → S.goal s ≡ false → dist S 0 s ≡ inf
  unfolding dist
  dist_none e = rw e

  -- what each move has, with at most k moves after it
  abbrev by_move : (k : ℕ) → S.Place → ℕ → Cost
  by_move k s m = through (dist S k) (S.step s m)

  -- elsewhere the least of what the moves have
  dist_on : (k : ℕ) {s : S.Place} → S.goal s ≡ false → dist S (suc k) s ≡ least_of (by_move k s) S.moves
  unfolding dist
  dist_on k e = rw e

  -- ---- no rival costs less

  -- a move and what dist says after it
  dist_move : {s t : S.Place} {m p : ℕ} (k c : ℕ) → Legal S s m p t → within (dist S k t) (fin c) → within (dist S (suc k) s) (fin (p + c))
  dist_move {s} {t} {m} {p} k c legal h = by (S.goal s) refl
    where
      by : (b : Bool) → S.goal s ≡ b → within (dist S (suc k) s) (fin (p + c))
      by true g = rw (dist_goal (suc k) g) (omega arith)
      by false g =
          let one : within (by_move k s m) (fin (p + c)) = rw legal.leads (plus-within p (dist S k t) (fin c) h) in
          let least = least_of_below (by_move k s) S.moves m legal.known in
          rw (dist_on k g) (within_trans (least_of (by_move k s) S.moves) (by_move k s m) (fin (p + c)) least one)

-- a rival of at most k moves costs at least dist k
pub dist_bounds : {S : System} {s : S.Place} {ms : List ℕ} {c : ℕ} (k : ℕ) → Rival S s ms c → length ms ≤ k → within (dist S k s) (fin c)
dist_bounds zero (Rival.enters legal g) h = absurd (omega arith)
dist_bounds zero (Rival.walks legal r) h = absurd (omega arith)
dist_bounds {S} (suc k) (Rival.enters legal g) h = rw add-zero at (dist_move S k 0 legal (rw (dist_goal S k g) (omega arith)))
dist_bounds {S} {s = s} (suc k) (Rival.walks {t = t} {m = m} {p = p} {c = c} {ms = ms} legal r) h = dist_move S k c legal (dist_bounds {s = t} k r (omega arith))

-- ---- it is reached

-- n is the cost of what is left from s, in at most k moves
abbrev Reached : (S : System) (k : ℕ) (s : S.Place) (n : ℕ) → Type 0
Reached S k s n = (ms : List ℕ) × Rest S s ms n × (length ms ≤ k)

-- at a goal
reached_goal : {S : System} {s : S.Place} (k n : ℕ) → S.goal s ≡ true → dist S k s ≡ fin n → Reached S k s n
reached_goal {S} k n g e = let none = dist_goal S k g in let z : n ≡ 0 = cc in ([], rw z (done g), omega arith)

-- a finite dist k is the cost of what is left, in at most k moves
pub dist_rest : {S : System} {s : S.Place} (k n : ℕ) → dist S k s ≡ fin n → Reached S k s n
dist_rest {S} {s} zero n e = by (S.goal s) refl
  where
    by : (b : Bool) → S.goal s ≡ b → Reached S 0 s n
    by true g = reached_goal 0 n g e
    by false g = absurd (inf_not_fin (sym (dist_none S g) ∙ e))
dist_rest {S} {s} (suc k) n e = by (S.goal s) refl (λ t d. dist_rest {s = t} k d)
  where
    by : (b : Bool) → S.goal s ≡ b → ((t : S.Place) (d : ℕ) → dist S k t ≡ fin d → Reached S k t d) → Reached S (suc k) s n
    by true g again = reached_goal (suc k) n g e
    by false g again =
        let (m, known, is) = least_of_one (by_move S k s) S.moves n (sym (dist_on S k g) ∙ e) in
        let (p, t, d, leads, left, sum) = through_fin (dist S k) (S.step s m) n is in
        let (ms, rest, short) = again t d left in
        (m ∷ ms, more g (rest_route (record { known = known; leads = leads }) sum rest), omega arith)

-- a finite dist k at no goal is the cost of a route of at most k moves
pub dist_reached : {S : System} {s : S.Place} {n : ℕ} (k : ℕ) → S.goal s ≡ false → dist S k s ≡ fin n
    → (ms : List ℕ) × Route S s ms n × (length ms ≤ k)
dist_reached k g e = let (ms, rest, short) = dist_rest k _ e in (ms, rest_more g rest, short)
