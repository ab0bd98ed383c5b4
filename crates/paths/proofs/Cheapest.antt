-- The theorems about cheapest walks that others cite, in one place.
-- In so many moves:
--     route_rival, dist_bounds, dist_reached      a route is a rival; `dist` bounds the rivals of so many
--                                                 moves, and is reached
-- In a lawful system:
--     shorter                                     every rival has a route of fewer than `size` moves that
--                                                 costs no more
--     dist_least, nothing                         `dist` is within every rival's cost; where it is infinite
--                                                 there is no rival
--     table_bounds, table_dist, dist_table        no rival costs less than a table says; a table is `dist`,
--                                                 and `dist` is a table
--     follow_route, follow_first, follow_short    following a table is a route at its cost, the first of
--                                                 them, of fewer than `size` moves
--     route_cost                                  what a route costs at most
-- From numbered starts:
--     start_least, start_none                       no rival from a start costs less than the best; where no
--                                                   start is best there is no rival
--     start_dist                                    a table has the best start that `dist` has
--     start_first, start_foremost, foremost_only    following a table from the best start is the join that is
--                                                   taken, and the only one
-- By a search forward from the starts (specs/Forward, specs/Leads):
--     one_bounds                                   every rival costs at least 1
--     forward_least, forward_some                  no rival from a start costs less than the search found,
--                                                  and some join costs that
--     forward_none, some_start, start_best         the best start: none, or the lowest on a cheapest join
--     keeps_leads, leads_keeps                     on a cheapest join the moves that keep the cost to go are
--                                                  those that lead on
--     on_leads, leads_on                           a place is on a cheapest join just where a move leads on
--                                                  from it
--     start_on, on_start                           a start is on a cheapest join just where the cost to go is
--                                                  what the search found
--     led_best, best_led                           leads stand just on the places of cheapest joins
--     lead_keeps, lowest_lead_lem, leads_follow    so leads are followed as a table is
--     leads_best, leads_join, leads_foremost       and the join by leads is the join by a table, the one that
--                                                  is taken
-- By trying every list of so many moves (specs/Finding):
--     earliest_in    what is found is the first of the cheapest routes that have no more moves
--     found_best     with as many moves as places, it is what a table tells
-- Orders of move lists and of joins:
--     before_irrefl, before_trans, before-total, ahead_irrefl, ahead_trans, ahead_total
-- Not here: one move of `follow` (Following, Lowest) and of `follow_leads` (FollowLeads), the test of a move
-- that leads on (Leads), what `best` chooses (Starts), the order of costs (Costs).
use Prim.Native.Nat.{ℕ}
use mathlib.Core.Path.{◌≡◌}
use mathlib.Core.List.{List}
use Rattle.paths.specs.Systems.{System}
use Rattle.paths.specs.Tables.{Lawful, within}
use Rattle.paths.specs.Rivals.{Rival}
use Rattle.paths.specs.Distances.{dist}
use Rattle.paths.specs.Costs.{fin, inf}
pub use Rattle.paths.proofs.Routes.{route_rival, route_cost}
pub use Rattle.paths.proofs.Reach.{dist_bounds, dist_reached}
pub use Rattle.paths.proofs.Loops.{shorter}
pub use Rattle.paths.proofs.Tables.{table_bounds, table_dist, dist_table}
pub use Rattle.paths.proofs.First.{follow_route, follow_first, follow_short}
pub use Rattle.paths.proofs.Orders.{before_irrefl, before_trans, before-total, ahead_irrefl, ahead_trans, ahead_total}
pub use Rattle.paths.proofs.Finding.{earliest_in}
pub use Rattle.paths.proofs.FoundTable.{found_best}
pub use Rattle.paths.proofs.Joins.{start_least, start_none, start_dist, start_first, start_foremost, foremost_only}
pub use Rattle.paths.proofs.Forward.{one_bounds, forward_least, forward_some}
pub use Rattle.paths.proofs.OnBest.{keeps_leads, leads_keeps, on_leads, leads_on, start_on, on_start}
pub use Rattle.paths.proofs.BestStart.{forward_none, some_start, start_best}
pub use Rattle.paths.proofs.Leads.{led_best, best_led}
pub use Rattle.paths.proofs.FollowLeads.{lead_keeps, lowest_lead_lem, leads_follow}
pub use Rattle.paths.proofs.JoinLeads.{leads_best, leads_join, leads_foremost}

module _ {S : System} {Good : S.Place → Type 0} {code : S.Place → ℕ} {size dearest : ℕ} (laws : Lawful S Good code size dearest) where
  -- no rival, of any length, costs less than dist
  pub dist_least : {s : S.Place} {ms : List ℕ} {c : ℕ} → Good s → Rival S s ms c → within (dist S size s) (fin c)
  dist_least good r = table_bounds laws (dist_table laws) good r

  -- where dist is infinite there is no rival
  pub nothing : {s : S.Place} {ms : List ℕ} {c : ℕ} → Good s → dist S size s ≡ inf → Rival S s ms c → ⊥
  nothing good e r = rw e at (dist_least good r)
