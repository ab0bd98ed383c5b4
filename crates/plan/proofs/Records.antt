-- Every record that routing writes is cheapest: a join has no cheaper rival, and where there is none there is
-- no rival. And each is the join that the ties name.
--     cheapest_record      one record that is the join of what stands
--     routing_cheapest     all of a job's
--     routing_first        all of a job's, by the ties
use mathlib.Core.Path.{◌≡◌, refl, sym, subst}
use mathlib.Core.List.{List, [], ◌∷◌}
use Rattle.job.specs.Lists.{All}
use Rattle.job.specs.Job.{Job}
use Rattle.job.specs.Good.{GoodJob}
use Rattle.paths.proofs.Cheapest.{route_rival}
use Rattle.rules.specs.Views.{View, view_of}
use Rattle.rules.specs.Prices.{tech_of}
use Rattle.rules.specs.Joins.{Record, join, none, IsJoin, join_of}
use Rattle.rules.specs.Routings.{Entry, routing}
use Rattle.rules.specs.Places.{GoodTech}
use Rattle.rules.proofs.Techs.{good_tech}
use Rattle.rules.proofs.Joins.{join_is, join_route, join_least, join_none}
use Rattle.rules.proofs.Entries.{Written, all_written}
use Rattle.plan.specs.Claim.{CheapestRecord}

module _ {j : Job} (good : GoodJob j) where
  -- a record that is the join of what stands is cheapest
  pub cheapest_record : (e : Entry) → Written j e → CheapestRecord j e e.written
  unfolding CheapestRecord
  cheapest_record e w = subst (CheapestRecord j e) (sym w.is) (by (join_of (tech_of j) view e.before.tree e.before.unjoined) refl)
    where
      view : View
      view = view_of j e.net e.before.metal

      tech : GoodTech (tech_of j)
      tech = good_tech good

      by : (r : Record) → join_of (tech_of j) view e.before.tree e.before.unjoined ≡ r → CheapestRecord j e r
      by (join s ms c) is =
          let route = join_route tech view w.apart is in
          (record { on_tree = route.on_tree; walks = route_rival route.walks }, λ s' ms' c' rival. join_least tech view w.apart is rival)
      by none is = λ s ms c rival. join_none tech view w.apart is rival

  -- each of several
  all_cheapest : (es : List Entry) → All (Written j) es → All (λ e. CheapestRecord j e e.written) es
  unfolding All
  all_cheapest [] h = tt
  all_cheapest (e ∷ es) h = (cheapest_record e h.0, all_cheapest es h.1)

  -- every record of routing is cheapest
  pub routing_cheapest : All (λ e. CheapestRecord j e e.written) (routing j).entries
  routing_cheapest = all_cheapest (routing j).entries (all_written good)

  -- a record is the join that the ties name
  abbrev pub First : Entry → Type 0
  First e = IsJoin (tech_of j) (view_of j e.net e.before.metal) e.before.tree e.before.unjoined e.written

  -- each of several
  all_first : (es : List Entry) → All (Written j) es → All First es
  unfolding All
  all_first [] h = tt
  all_first (e ∷ es) h = (rw h.0.is (join_is (good_tech good) _ h.0.apart), all_first es h.1)

  -- every record of routing is the join that the ties name
  pub routing_first : All First (routing j).entries
  routing_first = all_first (routing j).entries (all_written good)
