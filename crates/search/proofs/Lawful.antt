-- The laws of cheapest walks hold where the bytes tell the goals.
--     lawful_by      places, moves and prices are lawful
--     legal_enters   a legal move enters the vertex of the place that it leads to
--     starts_good    a vertex of the tree is a good place and no goal
use mathlib.Core.Path.{◌≡◌}
use mathlib.Core.List.{List}
use mathlib.Core.Bool.{false}
use native.Mathlib.Omega.{arith}
use Prim.Native.Nat.{ℕ}
use lib.ListN.{get_or}
use lib.Dec.{eqb}
use borrow.Author.Tests.{eqb-true, ne_eqb}
use Rattle.paths.specs.Systems.{to}
use Rattle.paths.specs.Tables.{Lawful}
use Rattle.paths.specs.Foremost.{GoodStarts}
use Rattle.rules.specs.Tracks.{at, entered}
use Rattle.rules.specs.Views.{View}
use Rattle.rules.specs.Segments.{kind_of, Place}
use Rattle.rules.specs.Prices.{Tech}
use Rattle.rules.specs.Steps.{step, priced}
use Rattle.rules.specs.Joins.{places}
use Rattle.rules.specs.Places.{place_code, GoodPlace, GoodTech, dearest_move}
use Rattle.rules.specs.Walks.{start_at}
use Rattle.rules.proofs.Places.{code_below, code_apart, start_good}
use Rattle.rules.proofs.Moves.{step_parts, step_keeps, step-costs, step_limits}
use Rattle.rules.proofs.Segments.{move_led}
use Rattle.search.specs.Fronts.{system_by, starts_by}

module _ {t : Tech} (view : View) (spots : List ℕ) (fine : GoodTech t) where
  pub lawful_by : Lawful (system_by t view spots) (GoodPlace t) (place_code t) (places t) dearest_move
  lawful_by =
      record {
        keeps = λ {s} {m = m} h l. step_keeps view s m fine h l.leads;
        costs = λ {s} {m = m} h l. step-costs view s m fine h l.leads;
        limits = λ {s} {m = m} h l. step_limits view s m fine h l.leads;
        below = λ h. code_below h;
        apart = λ h k e. code_apart fine h k e;
      }

-- a legal move enters the vertex of the place that it leads to
pub legal_enters : {t : Tech} (view : View) (fine : GoodTech t) {p q : Place} (m : ℕ) {c : ℕ} → GoodPlace t p → priced (step t view p m) ≡ to c q
    → entered t.grid p.vertex m ≡ at q.vertex
legal_enters {t} view fine {p} m good leads =
    let went = step_parts t view p m leads in
    let led = move_led view p (kind_of m) went.vertex went.enter fine good.vertex went.does in
    rw led.vertex went.enters

-- a byte of the tree is none of an unjoined pin
pub tree_no_goal : (byte : ℕ) → byte ≡ 1 → eqb byte 2 ≡ false
tree_no_goal byte e = ne_eqb byte 2 (λ f. omega arith)

pub starts_good : (t : Tech) (view : View) (spots : List ℕ) → GoodStarts (system_by t view spots) (GoodPlace t) (starts_by t view spots)
unfolding start_at
starts_good t view spots =
    record {
      good = λ {v} h is. start_good h;
      no_goal = λ {v} h is. tree_no_goal (get_or spots v 0) (eqb-true (get_or spots v 0) 1 is);
    }
