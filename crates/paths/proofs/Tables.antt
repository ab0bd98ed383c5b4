-- With as many moves as there are places `dist` is a table, and the only one.
--     Exact, exact_only          the least cost from a place, said without `dist`; there is one at most
--     dist_exact                 `dist` is it
--     table_bounds               no rival costs less than a table says
--     table_exact                a table is it
--     table_dist, dist_table     so a table is `dist`, and `dist` is a table
use Prim.Native.Nat.{ℕ, ◌+◌, ◌<◌}
use native.Mathlib.Omega.{arith}
use native.Mathlib.Nat.{add-zero, le_refl}
use mathlib.Core.Path.{◌≡◌, refl}
use mathlib.Core.List.{List}
use mathlib.Core.Bool.{Bool, true, false}
use Rattle.paths.specs.Systems.{Step, blocked, to, System, Legal}
use Rattle.paths.specs.Tables.{Lawful, within, Table}
use Rattle.paths.specs.Rivals.{Rival, Route}
use Rattle.paths.specs.Distances.{through, dist, follow}
use Rattle.paths.specs.Costs.{Cost, fin, inf, plus}
use Rattle.paths.proofs.Costs.{within_trans, within_only, within_inf, plus-within}
use Rattle.paths.proofs.Routes.{route_rival, Rest, done, more, rest_route, rest_more}
use Rattle.paths.proofs.Reach.{dist_goal, dist_bounds, dist_rest}
use Rattle.paths.proofs.Loops.{shorter}
use Rattle.paths.proofs.Following.{follow_rest}

-- v is the least cost from s: nothing that is left costs less, and where v is finite something costs v
pub record Exact (S : System) (s : S.Place) (v : Cost) : Type 0 where
  pub bounds : {ms : List ℕ} {c : ℕ} → Rest S s ms c → within v (fin c)
  pub reached : {n : ℕ} → v ≡ fin n → (ms : List ℕ) × Rest S s ms n

-- one is within the other
exact_within : {S : System} {s : S.Place} (v w : Cost) → Exact S s v → Exact S s w → within v w
exact_within v (fin n) x y = x.bounds (y.reached refl).1
exact_within v inf x y = within_inf v

-- there is one at most
exact_only : {S : System} {s : S.Place} (v w : Cost) → Exact S s v → Exact S s w → v ≡ w
exact_only v w x y = within_only v w (exact_within v w x y) (exact_within w v y x)

module _ {S : System} {Good : S.Place → Type 0} {code : S.Place → ℕ} {size dearest : ℕ} (laws : Lawful S Good code size dearest) where
  -- with as many moves as there are places dist is the least cost
  dist_exact : {s : S.Place} → Good s → Exact S s (dist S size s)
  dist_exact {s} good = record { bounds = bounds; reached = λ {n} e. let (ms, rest, short) = dist_rest size n e in (ms, rest) }
    where
      bounds : {ms : List ℕ} {c : ℕ} → Rest S s ms c → within (dist S size s) (fin c)
      bounds (done g) = rw (dist_goal S size g) (omega arith)
      bounds {c = c} (more g r) =
          let (ns, d, route, cheaper, short) = shorter laws good g (route_rival r) in
          within_trans (dist S size s) (fin d) (fin c) (dist_bounds size (route_rival route) (omega arith)) cheaper

  -- ---- a table is dist

  module _ {D : S.Place → Cost} (T : Table S Good D) where
    -- a move and what the table says after it
    table_move : {s t : S.Place} {m p : ℕ} (c : ℕ) → Good s → Legal S s m p t → within (D t) (fin c) → within (D s) (fin (p + c))
    table_move {s} {t} {p = p} c good legal h = by (S.goal s) refl
      where
        by : (b : Bool) → S.goal s ≡ b → within (D s) (fin (p + c))
        by true g = rw (T.goals good g) (omega arith)
        by false g =
            let on : within (D s) (plus p (D t)) = rw legal.leads at (T.settled good g legal.known) in
            within_trans (D s) (plus p (D t)) (fin (p + c)) on (plus-within p (D t) (fin c) h)

    -- no rival costs less than a table says
    pub table_bounds : {s : S.Place} {ms : List ℕ} {c : ℕ} → Good s → Rival S s ms c → within (D s) (fin c)
    table_bounds good (Rival.enters legal g) = rw add-zero at (table_move 0 good legal (rw (T.goals (laws.keeps good legal) g) (omega arith)))
    table_bounds good (Rival.walks {c = c} legal r) = table_move c good legal (table_bounds (laws.keeps good legal) r)

    -- what a table says is the least cost
    pub table_exact : {s : S.Place} → Good s → Exact S s (D s)
    table_exact {s} good = record { bounds = bounds; reached = λ {n} e. (follow S D n s, follow_rest laws T n (le_refl n) good e) }
      where
        bounds : {ms : List ℕ} {c : ℕ} → Rest S s ms c → within (D s) (fin c)
        bounds (done g) = rw (T.goals good g) (omega arith)
        bounds (more g r) = table_bounds good (route_rival r)

    -- a table is dist
    pub table_dist : {s : S.Place} → Good s → D s ≡ dist S size s
    table_dist {s} good = exact_only (D s) (dist S size s) (table_exact good) (dist_exact good)

  -- ---- dist is a table

  -- no move lowers it
  dist_settled : {s : S.Place} {m : ℕ} → Good s → S.goal s ≡ false → m < S.moves → within (dist S size s) (through (dist S size) (S.step s m))
  dist_settled {s} {m} good g known = by (S.step s m) refl
    where
      by : (x : Step S.Place) → S.step s m ≡ x → within (dist S size s) (through (dist S size) x)
      by blocked leads = within_inf (dist S size s)
      by (to p t) leads = on (dist S size t) refl
        where
          legal : Legal S s m p t
          legal = record { known = known; leads = leads }

          on : (v : Cost) → dist S size t ≡ v → within (dist S size s) (plus p v)
          on (fin d) e = (dist_exact good).bounds (more g (rest_route legal refl ((dist_exact (laws.keeps good legal)).reached e).1))
          on inf e = within_inf (dist S size s)

  -- the first move of a route supports its cost
  dist_supported : {s : S.Place} {ms : List ℕ} {n : ℕ} → Good s → Route S s ms n
      → (m : ℕ) × (m < S.moves) × within (through (dist S size) (S.step s m)) (fin n)
  dist_supported good (Route.enters {m = m} legal g) = (m, legal.known, rw (legal.leads, dist_goal S size g) (omega arith))
  dist_supported good (Route.walks {t = t} {m = m} {p = p} {c = c} legal g r) =
      (m, legal.known, rw legal.leads (plus-within p (dist S size t) (fin c) ((dist_exact (laws.keeps good legal)).bounds (more g r))))

  -- dist is a table
  pub dist_table : Table S Good (dist S size)
  dist_table = record {
    goals = λ good g. dist_goal S size g;
    settled = dist_settled;
    supported = λ good g e. dist_supported good (rest_more g ((dist_exact good).reached e).1);
  }
