-- What the laws of cheapest walks ask of a system and of a table of its costs.
--     Lawful     of a system: places have codes of their own, and a move costs something
--     within     no dearer than
--     Table      a table of costs that no move lowers and whose every finite entry a move supports
use Rattle.std.specs.Prelude.{ℕ, ◌≤◌, ◌<◌, ◌≡◌, true, false}
use Rattle.paths.specs.Systems.{System, Legal}
use Rattle.paths.specs.Distances.{through}
use Rattle.paths.specs.Costs.{Cost, fin, inf}

-- good places have codes of their own below `size`; a legal move leads from one to another, at a price from 1
-- to `dearest`
pub record Lawful (S : System) (Good : S.Place → Type 0) (code : S.Place → ℕ) (size dearest : ℕ) : Type 0 where
  pub keeps : {s t : S.Place} {m p : ℕ} → Good s → Legal S s m p t → Good t
  pub costs : {s t : S.Place} {m p : ℕ} → Good s → Legal S s m p t → 1 ≤ p
  pub limits : {s t : S.Place} {m p : ℕ} → Good s → Legal S s m p t → p ≤ dearest
  pub below : {s : S.Place} → Good s → code s < size
  pub apart : {s t : S.Place} → Good s → Good t → code s ≡ code t → s ≡ t

-- no dearer than
abbrev pub within : Cost → Cost → Type 0
within (fin m) (fin n) = m ≤ n
within (fin m) inf = Unit
within inf (fin n) = ⊥
within inf inf = Unit

module _ (S : System) where
  -- what a relaxation leaves when a whole pass changes nothing: 0 at goals, no move lowers an entry, and a
  -- move supports each finite entry
  pub record Table (Good : S.Place → Type 0) (D : S.Place → Cost) : Type 0 where
    pub goals : {s : S.Place} → Good s → S.goal s ≡ true → D s ≡ fin 0
    pub settled : {s : S.Place} {m : ℕ} → Good s → S.goal s ≡ false → m < S.moves → within (D s) (through D (S.step s m))
    pub supported : {s : S.Place} {n : ℕ} → Good s → S.goal s ≡ false → D s ≡ fin n
        → (m : ℕ) × (m < S.moves) × within (through D (S.step s m)) (fin n)
