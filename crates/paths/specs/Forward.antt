-- A search forward from the starts: what it has when it stops, said without its queue.
--     From           the end of a walk from a start that goes on from no goal, and the walk's cost
--     LowerBound     no rival costs less than so much
--     Enters         a move into a goal from a place that the search came to, and the cost of the walk
--     Forward        what the search has when it stops
-- E is the cost of the walk to each place, infinite where the search did not come. C is the cost of the
-- cheapest goal found, infinite where there is none, so that one record says both ends of a search. h is what
-- is left at least: 1 would do for a search without a bound of its own, since prices are at least 1, and "e +
-- h within C" is then "e below C". Places beyond C may be left as they are, with any walk's cost, and nothing
-- is asked of the entries of goals, so that a search need not keep them.
use Rattle.std.specs.Prelude.{ℕ, ◌+◌, ◌≤◌, ◌<◌, ◌≡◌, List, true, false}
use Rattle.paths.specs.Systems.{System, Legal}
use Rattle.paths.specs.Rivals.{Rival}
use Rattle.paths.specs.Costs.{Cost, fin}
use Rattle.paths.specs.Tables.{within}
use Rattle.paths.specs.Starts.{Starts}

-- the end of a walk from a start that goes on from no goal, and its cost
pub data From (S : System) (X : Starts S) : S.Place → ℕ → Type 0 where
  starts : {v : ℕ} → v < X.many → X.is_start v ≡ true → From S X (X.place v) 0
  goes : {p q : S.Place} {e m c : ℕ} → From S X p e → S.goal p ≡ false → Legal S p m c q → From S X q (e + c)

-- from a place that is no goal, no rival costs less than h says
pub record LowerBound (S : System) (Good : S.Place → Type 0) (h : S.Place → ℕ) : Type 0 where
  pub bounds : {p : S.Place} {ms : List ℕ} {c : ℕ} → Good p → S.goal p ≡ false → Rival S p ms c → h p ≤ c

module _ (S : System) (Good : S.Place → Type 0) where
  -- from a place that the search came to, a move into a goal; the walk costs n
  pub data Enters (E : S.Place → Cost) (n : ℕ) : Type 0 where
    enters : {p q : S.Place} {e m c : ℕ} → Good p → S.goal p ≡ false → E p ≡ fin e → Legal S p m c q → S.goal q ≡ true → e + c ≡ n → Enters E n

  -- the search came to every start; each entry is the cost of a walk; no move from a place within C lowers an
  -- entry, or enters a goal for less than C; and where C is finite, some move enters a goal for C
  pub record Forward (X : Starts S) (h : S.Place → ℕ) (E : S.Place → Cost) (C : Cost) : Type 0 where
    pub starts : {v : ℕ} → v < X.many → X.is_start v ≡ true → E (X.place v) ≡ fin 0
    pub reached : {p : S.Place} {e : ℕ} → Good p → S.goal p ≡ false → E p ≡ fin e → From S X p e
    pub closed : {p q : S.Place} {e m c : ℕ} → Good p → S.goal p ≡ false → E p ≡ fin e → within (fin (e + h p)) C
        → Legal S p m c q → S.goal q ≡ false → within (E q) (fin (e + c))
    pub least : {p q : S.Place} {e m c : ℕ} → Good p → S.goal p ≡ false → E p ≡ fin e → within (fin (e + h p)) C
        → Legal S p m c q → S.goal q ≡ true → within C (fin (e + c))
    pub found : {n : ℕ} → C ≡ fin n → Enters E n
