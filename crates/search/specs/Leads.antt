-- The moves of cheapest joins, by the entries and the leads.
--     lead_by      whether a move leads to a goal at the best cost, or on to a lead at its exact distance
--     lowest_by    the lowest such move
--     OnlyMoves    no move leads on but those of a byte
--     Asked        what asking a settled place does: it gets a lead that tells the lowest move that leads on,
--                  and then the moves that enter its vertex have their bits
--     Answered     and what is answered: the lower start
use Rattle.std.specs.Prelude.{ℕ, suc, ◌≤◌, ◌<◌, min, ◌≡◌, List, Bool, true, false, length, get_or}
use Rattle.job.specs.Grid.{vertices}
use Rattle.paths.specs.Systems.{Step}
use Rattle.paths.specs.Leads.{is_lead, lowest_lead}
use Rattle.rules.specs.Tracks.{at, entered}
use Rattle.rules.specs.Views.{View}
use Rattle.rules.specs.Segments.{Place}
use Rattle.rules.specs.Prices.{Tech}
use Rattle.rules.specs.Steps.{step, priced}
use Rattle.search.specs.Fronts.{system_by, costs, reached_by, with_lead, led_by}
use Rattle.search.specs.Bits.{HasMove}

abbrev pub lead_by : (t : Tech) (view : View) (spots bounds work : List ℕ) → (best e : ℕ) → Step Place → Bool
lead_by t view spots bounds work best e move = is_lead (system_by t view spots) (reached_by t bounds work) best (led_by t work) e move

abbrev pub lowest_by : (t : Tech) (view : View) (spots bounds work : List ℕ) → (best : ℕ) → Place → (e : ℕ) → ℕ
lowest_by t view spots bounds work best p e = lowest_lead (system_by t view spots) (reached_by t bounds work) best (led_by t work) p e

-- from p at a distance no move leads on but those whose bits the byte has
abbrev pub OnlyMoves : (t : Tech) (view : View) (spots bounds work : List ℕ) → (best : ℕ) → Place → (e byte : ℕ) → Type 0
OnlyMoves t view spots bounds work best p e byte = (m : ℕ) → m < 4 → (HasMove byte m → ⊥) → lead_by t view spots bounds work best e (priced (step t view p m)) ≡ false

-- the place gets a lead just where a move leads on, and it tells the lowest; else all is as it was
pub record Asked (t : Tech) (view : View) (spots bounds : List ℕ) (best item : ℕ) (p : Place) (near work near' work' : List ℕ) (led : Bool) : Type 0 where
  pub left : led ≡ false → (near' ≡ near) × (work' ≡ work)
  pub none : led ≡ false → (e : ℕ) → costs t bounds work item ≡ suc e → 4 ≤ lowest_by t view spots bounds work best p e
  pub lead : ℕ
  pub known : led ≡ true → lead < 4
  pub leads : led ≡ true → (e : ℕ) → costs t bounds work item ≡ suc e → lead ≡ lowest_by t view spots bounds work best p e
  pub put : led ≡ true → work' ≡ with_lead work item lead
  pub lit : led ≡ true → (u m : ℕ) → u < vertices t.grid → entered t.grid u m ≡ at p.vertex → HasMove (get_or near' u 0) m
  pub stays : (u m : ℕ) → HasMove (get_or near u 0) m → HasMove (get_or near' u 0) m
  pub bytes : length near' ≡ 16384

-- the place is a start where it costs nothing
pub record Answered (t : Tech) (view : View) (spots bounds : List ℕ) (best item : ℕ) (p : Place) (near work near' work' : List ℕ) (start r : ℕ) : Type 0 where
  pub led : Bool
  pub asked : Asked t view spots bounds best item p near work near' work' led
  pub same : (led ≡ true → costs t bounds work' item ≡ 1 → ⊥) → r ≡ start
  pub lower : led ≡ true → costs t bounds work' item ≡ 1 → r ≡ min start p.vertex
