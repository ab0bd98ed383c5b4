-- Pins that are all different: the reading compares each pin with the earlier ones, the rules compare each
-- with the later ones.
--     Clear                 none of these is one of the earlier
--     New                   and these are all different too
--     new_nil, new_all      no pins; no earlier pins
--     new_cons              one more pin, which is then earlier
--     new_append            some more pins, which are then earlier
use mathlib.Core.Path.{sym}
use mathlib.Core.Logic.{◌↔◌}
use mathlib.Core.Bool.{not}
use mathlib.Core.List.{List, [], ◌∷◌, ◌++◌}
use lib.Dec.{T, T_not, not_T}
use Rattle.job.specs.Lists.{any, All}
use Rattle.job.specs.Grid.{Vertex, same}
use Rattle.job.specs.Good.{Distinct}
use Rattle.job.proofs.Tests.{nor_holds, tests, regroup}

-- none of these is one of the earlier
Clear : (earlier vs : List Vertex) → Type 0
Clear earlier vs = All (λ v. T (not (any (same v) earlier))) vs

-- these are all different, and none is one of the earlier
pub New : (earlier vs : List Vertex) → Type 0
New earlier vs = Distinct vs × Clear earlier vs

-- being different goes both ways
apart_sym : (v w : Vertex) → T (not (same v w)) → T (not (same w v))
unfolding same
apart_sym v w h = not_T (same w v) (λ t. T_not (same v w) h (turned t))
  where
    turned : T (same w v) → T (same v w)
    turned t = let e = simp tests at t in simp tests (sym e.0, (sym e.1.0, sym e.1.1))

-- none is one of no earlier
clear_nil : (vs : List Vertex) → Clear [] vs
unfolding Clear All any
clear_nil [] = tt
clear_nil (v ∷ vs) = (tt, clear_nil vs)

-- one earlier vertex more
clear_cons : (w : Vertex) (ws vs : List Vertex) → Clear (w ∷ ws) vs ↔ (T (not (any (same w) vs)) × Clear ws vs)
unfolding Clear All any
clear_cons w ws [] = (λ h. (tt, tt), λ h. tt)
clear_cons w ws (v ∷ vs) =
    simp (nor_holds, clear_cons w ws vs)
    (λ ((vw, v-ws), (w-vs, rest)). ((apart_sym v w vw, w-vs), (v-ws, rest)), λ ((wv, w-vs), (v-ws, rest)). ((apart_sym w v wv, v-ws), (w-vs, rest)))

-- some earlier vertices more
clear-append : (ps qs vs : List Vertex) → Clear (ps ++ qs) vs ↔ (Clear ps vs × Clear qs vs)
clear-append [] qs vs = (λ h. (clear_nil vs, h), λ h. h.1)
clear-append (p ∷ ps) qs vs = simp (clear_cons, clear-append ps qs vs) regroup

-- a vertex is in neither of two lists
none_append : (v : Vertex) (ps qs : List Vertex) → T (not (any (same v) (ps ++ qs))) ↔ (T (not (any (same v) ps)) × T (not (any (same v) qs)))
unfolding any
none_append v [] qs = (λ h. (tt, h), λ h. h.1)
none_append v (p ∷ ps) qs = simp (nor_holds, none_append v ps qs) regroup

-- two lists are all different where each is, and neither has one of the other
distinct_append : (ps qs : List Vertex) → Distinct (ps ++ qs) ↔ (Distinct ps × (Distinct qs × Clear ps qs))
unfolding Distinct
distinct_append [] qs = (λ h. (tt, (h, clear_nil qs)), λ h. h.1.0)
distinct_append (p ∷ ps) qs =
    simp (none_append p ps qs, clear_cons, distinct_append ps qs)
    (λ ((p-ps, p-qs), (d, (e, c))). ((p-ps, d), (e, (p-qs, c))), λ ((p-ps, d), (e, (p-qs, c))). ((p-ps, p-qs), (d, (e, c))))

-- none of two lists is one of the earlier
clear_both : (earlier ps qs : List Vertex) → Clear earlier (ps ++ qs) ↔ (Clear earlier ps × Clear earlier qs)
unfolding Clear All
clear_both earlier [] qs = (λ h. (tt, h), λ h. h.1)
clear_both earlier (p ∷ ps) qs = simp (clear_both earlier ps qs) regroup

-- no pins
pub new_nil : (earlier : List Vertex) → New earlier []
unfolding New Distinct Clear All
new_nil earlier = (tt, tt)

-- one more pin, which is then earlier
pub new_cons : (earlier : List Vertex) (v : Vertex) (vs : List Vertex)
    → New earlier (v ∷ vs) ↔ (T (not (any (same v) earlier)) × New (v ∷ earlier) vs)
unfolding New Distinct
new_cons earlier v vs =
    simp clear_cons (unfold Clear All in (λ ((v-vs, d), (v-e, c)). (v-e, (d, (v-vs, c))), λ (v-e, (d, (v-vs, c))). ((v-vs, d), (v-e, c))))

-- some more pins, which are then earlier
pub new_append : (earlier ps qs : List Vertex) → New earlier (ps ++ qs) ↔ (New earlier ps × New (ps ++ earlier) qs)
unfolding New
new_append earlier ps qs =
    simp (distinct_append, clear_both, clear-append)
    (λ ((dp, (dq, pq)), (ep, eq)). ((dp, ep), (dq, (pq, eq))), λ ((dp, ep), (dq, (pq, eq))). ((dp, (dq, pq)), (ep, eq)))

-- with no earlier pins, to be new is to be all different
pub new_all : (vs : List Vertex) → New [] vs ↔ Distinct vs
unfolding New
new_all vs = (λ h. h.0, λ h. (h, clear_nil vs))
