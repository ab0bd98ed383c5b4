-- One join of the net at hand: what it walks, and what it leaves in the arrays.
--     JoinMade, join_made     the join of what stands
--     route_all, route_more   the records of a net by whether a pin is unjoined
use Prim.Native.Nat.{ℕ, suc}
use mathlib.Core.Path.{◌≡◌, sym, ap, ◌∙◌}
use mathlib.Core.List.{List}
use Rattle.job.specs.Grid.{vertices}
use Rattle.job.specs.Job.{Job}
use Rattle.job.specs.Good.{GoodJob}
use Rattle.rules.specs.Views.{View, view_of}
use Rattle.rules.specs.Segments.{Place}
use Rattle.rules.specs.Prices.{tech_of}
use Rattle.rules.specs.Steps.{Made}
use Rattle.rules.specs.Walks.{start_at, walked, walk}
use Rattle.rules.specs.Standings.{Standing, joined_by}
use Rattle.rules.specs.Joins.{join, join_of}
use Rattle.rules.proofs.Techs.{good_tech}
use Rattle.rules.proofs.Places.{start_good}
use Rattle.rules.proofs.Walks.{route_walk}
use Rattle.rules.proofs.Joins.{join_route}
use Rattle.rules.proofs.Standing.{joined_apart}
use Rattle.metal.specs.Codes.{Beyond}
use Rattle.walker.specs.Entering.{Arrays, gone_at, entered, enter_all}
use Rattle.walker.specs.Standing.{AtNet}
use Rattle.walker.proofs.Standing.{stood_begun, stood_joined, end_entered, net_joined}
use Rattle.walker.proofs.Entering.{enter_walk}

-- a join of net k that was walked and entered
pub record JoinMade (j : Job) (k : ℕ) (view : View) (pins : List ℕ) (s : Standing) (arrays : Arrays) (start : ℕ) (moves : List ℕ) : Type 0 where
  pub last : Place
  pub made : List Made
  pub left : Arrays
  pub walks : walk (tech_of j) (view_of j k s.metal) (start_at start) moves ≡ walked last made
  pub enters : enter_all (tech_of j) view (suc k) moves (gone_at start) arrays ≡ entered (record { place = last; made = made }) left
  pub after : AtNet j k view pins (joined_by k s last.vertex made) left
  pub kept : Beyond (vertices j.grid) left.codes arrays.codes

module _ {j : Job} (good-j : GoodJob j) (k : ℕ) (view : View) (pins : List ℕ) (s : Standing) (arrays : Arrays) (here : AtNet j k view pins s arrays) where
  -- the join of what stands
  pub join_made : {start cost : ℕ} {moves : List ℕ} → join_of (tech_of j) view s.tree s.unjoined ≡ join start moves cost
      → JoinMade j k view pins s arrays start moves
  unfolding gone_at tech_of
  join_made {start} {cost} {moves} is =
      let good = good_tech good-j in
      let route = join_route good view here.apart is in
      let on = here.apart.on_grid start route.on_tree in
      let w = route_walk good view on route in
      let by = enter_walk view good k s here.known moves (gone_at start) arrays (start_good on) (stood_begun j.grid k s arrays here.stood) w.does in
      record {
        last = w.last;
        made = w.made;
        left = by.left;
        walks = ap (λ (v : View). walk (tech_of j) v (start_at start) moves) (sym here.sees) ∙ w.does;
        enters = by.is;
        after = net_joined j k view pins s w.made w.last.vertex arrays by.left here (joined_apart k s good here.apart route w.does)
            (stood_joined j.grid k s w.made w.last.vertex by.left (end_entered w.last.vertex s.tree w.way w.enters) by.stood);
        kept = by.kept;
      }
