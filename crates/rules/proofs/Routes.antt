-- Routing a net, one record at a time.
--     totals_none    the totals of which each is 0
--     route_all      every pin is joined: no record
--     route_more     a pin is unjoined: the join of what stands, or none, and what follows
use Prim.Native.Nat.{ℕ, zero, suc}
use mathlib.Core.Path.{◌≡◌, refl}
use mathlib.Core.List.{List, [], ◌∷◌}
use Rattle.job.specs.Job.{Job}
use Rattle.rules.specs.Views.{view_of}
use Rattle.rules.specs.Prices.{tech_of}
use Rattle.rules.specs.Standings.{Standing}
use Rattle.rules.specs.Joins.{join_of}
use Rattle.rules.specs.Routings.{Totals, with_net, by_record, route_net}
use Rattle.rules.specs.declared.totals.Totals.{Totals as TotalsStruct}

-- each of the totals is 0
pub totals_none : {t : TotalsStruct} → (t.cost ≡ 0) × ((t.added ≡ 0) × ((t.penalties ≡ 0) × (t.joined ≡ 0)))
    → t ≡ record { cost = 0; added = 0; penalties = 0; joined = 0 }
totals_none h = λ i. record { cost = h.0 i; added = h.1.0 i; penalties = h.1.1.0 i; joined = h.1.1.1 i }

-- every pin is joined
pub route_all : (j : Job) (k n : ℕ) (s : Standing) (totals : Totals) → s.unjoined ≡ []
    → route_net j k n s totals ≡ record { entries = []; metal = s.metal; totals = with_net totals }
unfolding route_net
route_all j k zero s totals none = refl
route_all j k (suc n) s totals none = rw none refl

-- a pin is unjoined
pub route_more : (j : Job) (k n : ℕ) (s : Standing) (totals : Totals) → (s.unjoined ≡ [] → ⊥)
    → route_net j k (suc n) s totals ≡ by_record j k s totals (route_net j k n) (join_of (tech_of j) (view_of j k s.metal) s.tree s.unjoined)
unfolding route_net
route_more j k n s totals some = by s.unjoined refl
  where
    by : (u : List ℕ) → s.unjoined ≡ u
        → route_net j k (suc n) s totals ≡ by_record j k s totals (route_net j k n) (join_of (tech_of j) (view_of j k s.metal) s.tree s.unjoined)
    by [] e = absurd (some e)
    by (p ∷ ps) e = rw e refl
