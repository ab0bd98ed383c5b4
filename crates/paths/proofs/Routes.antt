-- Routes, a move at a time.
--     route_rival               a route is a rival
--     Rest                      what is left after a move: nothing at a goal, else a route
--     rest_route, rest_more     a move and what is left are a route; what is left at no goal is one
--     route_cost                a route costs at most the dearest price for each move
use Prim.Native.Nat.{ℕ, ◌+◌, ◌*◌, ◌≤◌}
use native.Mathlib.Omega.{arith}
use native.Mathlib.Nat.{add-zero}
use mathlib.Core.Path.{◌≡◌, sym, ◌∙◌}
use mathlib.Core.List.{List, [], ◌∷◌}
use mathlib.Core.Bool.{true, false, true≢false}
use lib.ListN.{length}
use Rattle.paths.specs.Systems.{System, Legal}
use Rattle.paths.specs.Tables.{Lawful}
use Rattle.paths.specs.Rivals.{Rival, Route}

-- a route is a rival
pub route_rival : {S : System} {s : S.Place} {ms : List ℕ} {c : ℕ} → Route S s ms c → Rival S s ms c
route_rival (Route.enters legal g) = Rival.enters legal g
route_rival (Route.walks legal g r) = Rival.walks legal (route_rival r)

-- what is left after a move: nothing at a goal, else a route
pub data Rest (S : System) : S.Place → List ℕ → ℕ → Type 0 where
  done : {t : S.Place} → S.goal t ≡ true → Rest S t [] 0
  more : {t : S.Place} {ms : List ℕ} {c : ℕ} → S.goal t ≡ false → Route S t ms c → Rest S t ms c

-- a move and what is left after it are a route
pub rest_route : {S : System} {s t : S.Place} {m p c n : ℕ} {ms : List ℕ} → Legal S s m p t → p + c ≡ n → Rest S t ms c → Route S s (m ∷ ms) n
rest_route {p = p} legal sum (done g) = rw (sym sum ∙ add-zero p) (Route.enters legal g)
rest_route legal sum (more g r) = rw (← sum) (Route.walks legal g r)

-- what is left at no goal is a route
pub rest_more : {S : System} {s : S.Place} {c : ℕ} {ms : List ℕ} → S.goal s ≡ false → Rest S s ms c → Route S s ms c
rest_more g (done goal) = absurd (true≢false (sym goal ∙ g))
rest_more g (more same r) = r

-- a route costs at most the dearest price for each move
pub route_cost : {S : System} {Good : S.Place → Type 0} {code : S.Place → ℕ} {size dearest : ℕ} (laws : Lawful S Good code size dearest)
    {s : S.Place} {ms : List ℕ} {c : ℕ} → Good s → Route S s ms c → c ≤ dearest * length ms
route_cost laws good (Route.enters legal g) = omega (arith, laws.limits good legal)
route_cost laws good (Route.walks legal g r) = omega (arith, laws.limits good legal, route_cost laws (laws.keeps good legal) r)
