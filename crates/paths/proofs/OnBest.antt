-- The places of cheapest joins, move by move. D is a table of the costs to go, and a forward search found C.
--     near_best                     a place on a cheapest join is within C by the lower bound
--     keeps_leads, leads_keeps      there, a move keeps the table's cost just where it leads to a goal at C
--                                   or on to such a place at its exact distance
--     on_leads, leads_on            a place is on a cheapest join just where such a move is
--     start_on, on_start            a start is on a cheapest join just where the table has C
use Prim.Native.Nat.{ℕ, ◌+◌, ◌≤◌, ◌<◌}
use native.Mathlib.Omega.{arith}
use mathlib.Core.Path.{◌≡◌, refl, ap, ◌∙◌}
use mathlib.Core.Bool.{Bool, true, false}
use mathlib.Core.List.{List}
use Rattle.paths.specs.Systems.{System, Legal}
use Rattle.paths.specs.Tables.{Lawful, within, Table}
use Rattle.paths.specs.Rivals.{Route}
use Rattle.paths.specs.Distances.{through, keeps, lowest_keeping}
use Rattle.paths.specs.Costs.{Cost, fin}
use Rattle.paths.specs.Starts.{Starts}
use Rattle.paths.specs.Foremost.{GoodStarts}
use Rattle.paths.specs.Forward.{From, LowerBound, Forward}
use Rattle.paths.specs.Leads.{OnBest, on_best, Leads, ends, goes_on}
use Rattle.paths.proofs.Costs.{within_fin, through_fin}
use Rattle.paths.proofs.Routes.{route_rival, rest_more}
use Rattle.paths.proofs.Following.{keeps_cost, cost_keeps, kept}
use Rattle.paths.proofs.Tables.{table_exact}
use Rattle.paths.proofs.Forward.{from_rival, forward_least}

-- two costs of one place are one
pub same_fin : {v : Cost} {m n : ℕ} → v ≡ fin m → v ≡ fin n → m ≡ n
same_fin e f = cc

module _ {S : System} {Good : S.Place → Type 0} {code : S.Place → ℕ} {size dearest : ℕ} (laws : Lawful S Good code size dearest)
    {D : S.Place → Cost} (T : Table S Good D) where
  -- a finite cost to go is the cost of a route
  pub some_route : {p : S.Place} {d : ℕ} → Good p → S.goal p ≡ false → D p ≡ fin d → (ms : List ℕ) × Route S p ms d
  some_route good g left = let (ms, rest) = (table_exact laws T good).reached left in (ms, rest_more g rest)

  module _ {X : Starts S} (ok : GoodStarts S Good X) {h : S.Place → ℕ} (low : LowerBound S Good h) {E : S.Place → Cost} {C : ℕ}
      (F : Forward S Good X h E (fin C)) where
    -- a walk from a start, and what is left from its end, cost C at least
    from_cost : {p : S.Place} {e d : ℕ} → Good p → S.goal p ≡ false → From S X p e → D p ≡ fin d → C ≤ e + d
    from_cost good g f left =
        let (ms, route) = some_route good g left in
        let (v, below, is, ns, rival) = from_rival f (route_rival route) in
        forward_least laws low F ok below is rival

    -- a place on a cheapest join is within C by the lower bound
    pub near_best : {p : S.Place} {e : ℕ} → Good p → E p ≡ fin e → OnBest S E C D p → e + h p ≤ C
    near_best good at (on_best g here left sum) =
        let (ms, route) = some_route good g left in
        omega (arith, same_fin at here, low.bounds good g (route_rival route))

    -- ---- one move

    -- from a place on a cheapest join, a move that keeps the cost to go leads on
    pub keeps_leads : {p : S.Place} {e d m : ℕ} → Good p → S.goal p ≡ false → E p ≡ fin e → D p ≡ fin d → e + d ≡ C → m < S.moves
        → keeps S D p d m ≡ true → Leads S E C (OnBest S E C D) p e m
    keeps_leads {p} {e} {d} {m} good g at left sum known keep =
        let (c, q, rest, leads, after, cost) = through_fin D (S.step p m) d (keeps_cost S D p d m keep) in
        by c q rest (record { known = known; leads = leads }) after cost (S.goal q) refl
      where
        by : (c : ℕ) (q : S.Place) (rest : ℕ) → Legal S p m c q → D q ≡ fin rest → c + rest ≡ d → (b : Bool) → S.goal q ≡ b
            → Leads S E C (OnBest S E C D) p e m
        by c q rest legal after cost true goal =
            ends legal goal (omega (arith, same_fin after (T.goals (laws.keeps good legal) goal)))
        by c q rest legal after cost false no_goal_lem =
            let near : within (fin (e + h p)) (fin C) = near_best good at (on_best g at left sum) in
            let (f, is, up) = within_fin (E q) (e + c) (F.closed good g at near legal no_goal_lem) in
            let fine = laws.keeps good legal in
            let down = from_cost fine no_goal_lem (F.reached fine no_goal_lem is) after in
            let exact : E q ≡ fin (e + c) = is ∙ ap fin (omega arith) in
            goes_on legal no_goal_lem exact (on_best no_goal_lem exact after (omega arith))

    -- a move that leads on, with what is left after it, costs what is missing
    after_lead : {p : S.Place} {e m : ℕ} → Good p → Leads S E C (OnBest S E C D) p e m
        → (c : ℕ) × (q : S.Place) × (rest : ℕ) × Legal S p m c q × (D q ≡ fin rest) × (e + (c + rest) ≡ C)
    after_lead good (ends {q = q} {c = c} legal goal sum) = (c, q, 0, legal, T.goals (laws.keeps good legal) goal, omega arith)
    after_lead good (goes_on {q = q} {c = c} legal no_goal_lem at (on_best {d = d} g here left sum)) =
        (c, q, d, legal, left, omega (arith, same_fin at here))

    -- a move that leads on keeps the cost to go, and the place is on a cheapest join
    pub leads_keeps : {p : S.Place} {e m : ℕ} → Good p → S.goal p ≡ false → E p ≡ fin e → Leads S E C (OnBest S E C D) p e m
        → (d : ℕ) × (D p ≡ fin d) × (e + d ≡ C) × (keeps S D p d m ≡ true)
    leads_keeps {p} {e} {m} good g at lead =
        let (c, q, rest, legal, after, sum) = after_lead good lead in
        let cost : through D (S.step p m) ≡ fin (c + rest) = rw (legal.leads, after) refl in
        let (d, left, up) = within_fin (D p) (c + rest) (rw cost at (T.settled good g legal.known)) in
        let down = from_cost good g (F.reached good g at) left in
        (d, left, omega arith, cost_keeps S D p d m (cost ∙ ap fin (omega arith)))

    -- ---- a place

    -- from a place on a cheapest join some move leads on
    pub on_leads : {p : S.Place} {e : ℕ} → Good p → E p ≡ fin e → OnBest S E C D p → (m : ℕ) × Leads S E C (OnBest S E C D) p e m
    on_leads {p} good at (on_best {d = d} g here left sum) =
        let on = kept laws T good g left in
        let m = lowest_keeping S D p d in
        let keep = cost_keeps S D p d m (rw (on.legal.leads, on.entry) (ap fin on.sum)) in
        (m, keeps_leads good g at left (omega (arith, same_fin at here)) on.legal.known keep)

    -- a place from which a move leads on is on a cheapest join
    pub leads_on : {p : S.Place} {e m : ℕ} → Good p → S.goal p ≡ false → E p ≡ fin e → Leads S E C (OnBest S E C D) p e m → OnBest S E C D p
    leads_on good g at lead = let (d, left, sum, keep) = leads_keeps good g at lead in on_best g at left sum

    -- ---- a start

    -- a start is on a cheapest join where the table has C
    pub start_on : {v : ℕ} → v < X.many → X.is_start v ≡ true → D (X.place v) ≡ fin C → OnBest S E C D (X.place v)
    start_on below is left = on_best (ok.no_goal below is) (F.starts below is) left (omega arith)

    -- the table has C at a start on a cheapest join
    pub on_start : {v : ℕ} → v < X.many → X.is_start v ≡ true → OnBest S E C D (X.place v) → D (X.place v) ≡ fin C
    on_start below is (on_best g here left sum) = left ∙ ap fin (omega (arith, same_fin here (F.starts below is)))
