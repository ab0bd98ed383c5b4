-- What a forward search found is the cheapest from any start.
--     one_bounds                   in a lawful system every rival costs at least 1
--     from_rival, from_route       a walk from a start and what goes on from its end
--     forward_least                no rival from a start costs less than the search found; where it found
--                                  none there is no rival
--     forward_some                 some join costs what it found
use Prim.Native.Nat.{ℕ, ◌+◌, ◌≤◌, ◌<◌}
use native.Mathlib.Omega.{arith}
use native.Mathlib.Nat.{add_assoc, zero-add}
use native.Mathlib.Decide.{dec_le}
use mathlib.Core.Path.{◌≡◌, refl, sym}
use mathlib.Core.Logic.{◌⊎◌, inl, inr}
use mathlib.Core.List.{List}
use mathlib.Core.Bool.{Bool, true, false}
use Rattle.paths.specs.Systems.{System}
use Rattle.paths.specs.Tables.{Lawful, within}
use Rattle.paths.specs.Rivals.{Rival, Route}
use Rattle.paths.specs.Costs.{Cost, fin, inf}
use Rattle.paths.specs.Starts.{Starts}
use Rattle.paths.specs.Foremost.{GoodStarts, Joins}
use Rattle.paths.specs.Forward.{From, LowerBound, Enters, Forward}
use Rattle.paths.proofs.Costs.{within_trans, within_fin}

-- in a lawful system every rival costs at least 1
pub one_bounds : {S : System} {Good : S.Place → Type 0} {code : S.Place → ℕ} {size dearest : ℕ} → Lawful S Good code size dearest
    → LowerBound S Good (λ p. 1)
one_bounds {S} {Good} laws = record { bounds = by }
  where
    by : {p : S.Place} {ms : List ℕ} {c : ℕ} → Good p → S.goal p ≡ false → Rival S p ms c → 1 ≤ c
    by good g (Rival.enters legal goal) = laws.costs good legal
    by good g (Rival.walks legal r) = omega (arith, laws.costs good legal)

-- ---- a walk from a start, and on

-- what goes on from the end of a walk is a rival from a start
pub from_rival : {S : System} {X : Starts S} {p : S.Place} {ms : List ℕ} {e c : ℕ} → From S X p e → Rival S p ms c
    → (v : ℕ) × (v < X.many) × (X.is_start v ≡ true) × (ns : List ℕ) × Rival S (X.place v) ns (e + c)
from_rival {ms = ms} {c = c} (From.starts {v = v} below is) r = (v, below, is, ms, rw (zero-add c) r)
from_rival {c = c} (From.goes {e = e} {c = d} f g legal) r = rw (add_assoc e d c) (from_rival f (Rival.walks legal r))

-- where it is a route from no goal, it is a route from a start
pub from_route : {S : System} {X : Starts S} {p : S.Place} {ms : List ℕ} {e c : ℕ} → From S X p e → S.goal p ≡ false → Route S p ms c
    → (v : ℕ) × (v < X.many) × (X.is_start v ≡ true) × (ns : List ℕ) × Route S (X.place v) ns (e + c)
from_route {ms = ms} {c = c} (From.starts {v = v} below is) no_goal_lem r = (v, below, is, ms, rw (zero-add c) r)
from_route {c = c} (From.goes {e = e} {c = d} f g legal) no_goal_lem r = rw (add_assoc e d c) (from_route f g (Route.walks legal no_goal_lem r))

-- a cost is within a number, or the number within it
within_or : (a : ℕ) (b : Cost) → within (fin a) b ⊎ within b (fin a)
within_or a inf = inl tt
within_or a (fin n) = by (dec_le a n)
  where
    by : Dec (a ≤ n) → (a ≤ n) ⊎ (n ≤ a)
    by (yes h) = inl h
    by (no h) = inr (omega arith)

module _ {S : System} {Good : S.Place → Type 0} {code : S.Place → ℕ} {size dearest : ℕ} (laws : Lawful S Good code size dearest)
    {X : Starts S} {h : S.Place → ℕ} (low : LowerBound S Good h) {E : S.Place → Cost} {C : Cost} (F : Forward S Good X h E C) where
  -- ---- nothing is cheaper

  -- what goes on from a place is no cheaper where it is beyond C, and so where that holds within C
  by_near : {p : S.Place} {ms : List ℕ} {c : ℕ} (e : ℕ) → Good p → S.goal p ≡ false → Rival S p ms c
      → (within (fin (e + h p)) C → within C (fin (e + c))) → within C (fin (e + c))
  by_near {p} {c = c} e good g r near = by (within_or (e + h p) C)
    where
      by : within (fin (e + h p)) C ⊎ within C (fin (e + h p)) → within C (fin (e + c))
      by (inl is) = near is
      by (inr far) = within_trans C (fin (e + h p)) (fin (e + c)) far (omega (arith, low.bounds good g r))

  -- a walk to where the search came, and a rival from there
  rival_least : {p : S.Place} {ms : List ℕ} {e c : ℕ} → Good p → S.goal p ≡ false → E p ≡ fin e → Rival S p ms c → within C (fin (e + c))
  rival_least {e = e} good g is (Rival.enters legal goal) = by_near e good g (Rival.enters legal goal) (λ near. F.least good g is near legal goal)
  rival_least {p} {e = e} good g is (Rival.walks {t = t} {p = d} {c = c} legal r) =
      by_near e good g (Rival.walks legal r) (λ near. by near (S.goal t) refl (λ f no_goal_lem at. rival_least {e = f} (laws.keeps good legal) no_goal_lem at r))
    where
      by : within (fin (e + h p)) C → (b : Bool) → S.goal t ≡ b → ((f : ℕ) → S.goal t ≡ false → E t ≡ fin f → within C (fin (f + c)))
          → within C (fin (e + (d + c)))
      by near true goal again = within_trans C (fin (e + d)) (fin (e + (d + c))) (F.least good g is near legal goal) (omega arith)
      by near false no_goal_lem again =
          let (f, at, up) = within_fin (E t) (e + d) (F.closed good g is near legal no_goal_lem) in
          within_trans C (fin (f + c)) (fin (e + (d + c))) (again f no_goal_lem at) (omega arith)

  -- no rival from a start costs less
  pub forward_least : GoodStarts S Good X → {v : ℕ} {ms : List ℕ} {c : ℕ} → v < X.many → X.is_start v ≡ true → Rival S (X.place v) ms c
      → within C (fin c)
  forward_least ok {c = c} below is r = rw (zero-add c) at (rival_least {e = 0} (ok.good below is) (ok.no_goal below is) (F.starts below is) r)

  -- ---- and it is reached

  -- some join costs what the search found
  pub forward_some : {n : ℕ} → C ≡ fin n → (v : ℕ) × (ms : List ℕ) × Joins S X (record { cost = n; start = v; moves = ms })
  forward_some {n} e = by (F.found e)
    where
      by : Enters S Good E n → (v : ℕ) × (ms : List ℕ) × Joins S X (record { cost = n; start = v; moves = ms })
      by (Enters.enters good g at legal goal sum) =
          let (v, below, is, ms, route) = from_route (F.reached good g at) g (Route.enters legal goal) in
          (v, ms, record { below = below; is_start = is; route = rw (sym sum) route })
