-- Loops are never needed.
--     visits               the codes of the places that a route visits, its goal last
--     once_short           a route that visits no place twice has fewer than `size` moves
--     back                 a route that visits a place has a tail that is a route from there
--     loopless             every rival has a route that visits no place twice and costs no more
--     shorter              so it has a route of fewer than `size` moves that costs no more
--     cheapest_short       a route that no other undercuts has fewer than `size` moves
use Prim.Native.Nat.{ℕ, zero, suc, ◌+◌, ◌≤◌, ◌<◌}
use native.Mathlib.Omega.{arith}
use native.Mathlib.Decide.{ℕ_discrete}
use mathlib.Core.Path.{◌≡◌, refl, sym, ap, ◌∙◌}
use mathlib.Core.List.{List, [], ◌∷◌}
use mathlib.Core.Bool.{Bool, true, false, true≢false}
use lib.ListN.{length}
use Rattle.paths.specs.Systems.{System, Legal}
use Rattle.paths.specs.Tables.{Lawful}
use Rattle.paths.specs.Rivals.{Rival, Route}
use Rattle.paths.proofs.Counts.{count, below, count_none, count_other, count-more, Once, once_none, once_more, below_none, below_more, once_below}

module _ (S : System) (code : S.Place → ℕ) where
  -- the codes of the places that a route visits, its goal last
  visits : {s : S.Place} {ms : List ℕ} {c : ℕ} → Route S s ms c → List ℕ
  visits (Route.enters {s = s} {t = t} legal g) = code s ∷ code t ∷ []
  visits (Route.walks {s = s} legal g r) = code s ∷ visits r

  -- a route from s that is a tail of another
  record Tail (s : S.Place) {t : S.Place} {ms : List ℕ} {c : ℕ} (r : Route S t ms c) : Type 0 where
    moves : List ℕ
    cost : ℕ
    route : Route S s moves cost
    cheaper : cost ≤ c
    fewer : (x : ℕ) → count x (visits route) ≤ count x (visits r)

  -- a route from s that visits no place twice, at no more than c
  record Loopless (s : S.Place) (c : ℕ) : Type 0 where
    moves : List ℕ
    cost : ℕ
    route : Route S s moves cost
    cheaper : cost ≤ c
    once : Once (visits route)

module _ {S : System} {Good : S.Place → Type 0} {code : S.Place → ℕ} {size dearest : ℕ} (laws : Lawful S Good code size dearest) where
  -- a route visits one place more than it has moves, each with a code below size
  visits_below : {s : S.Place} {ms : List ℕ} {c : ℕ} → Good s → (r : Route S s ms c) → below size (visits S code r) ≡ suc (length ms)
  unfolding visits
  visits_below good (Route.enters {s = s} {t = t} legal g) =
      rw (below_more size (code s) (code t ∷ []) (laws.below good), below_more size (code t) [] (laws.below (laws.keeps good legal)), below_none)
  visits_below good (Route.walks {s = s} legal g r) =
      rw (below_more size (code s) (visits S code r) (laws.below good)) (ap suc (visits_below (laws.keeps good legal) r))

  -- a route that visits no place twice has fewer than size moves
  once_short : {s : S.Place} {ms : List ℕ} {c : ℕ} → Good s → (r : Route S s ms c) → Once (visits S code r) → length ms < size
  once_short good r once = omega (arith, visits_below good r, once_below size (visits S code r) once)

  -- a goal's code is that of no other place
  goal_apart : {s t : S.Place} → Good s → Good t → S.goal s ≡ false → S.goal t ≡ true → code s ≡ code t → ⊥
  goal_apart good good-t g goal e = true≢false (sym goal ∙ sym (ap S.goal (laws.apart good good-t e)) ∙ g)

  -- ---- coming back

  -- a route from s is its own tail
  back_here : {s t : S.Place} {ms : List ℕ} {c : ℕ} → Good s → Good t → (r : Route S t ms c) → code s ≡ code t → Tail S code s r
  back_here {c = c} good good-t r e =
      rw (laws.apart good good-t e) (record { moves = _; cost = c; route = r; cheaper = omega arith; fewer = λ x. omega arith })

  -- a route that visits s has a tail that is a route from s
  back : {s t : S.Place} {ms : List ℕ} {c : ℕ} → Good s → S.goal s ≡ false → Good t → (r : Route S t ms c) → 1 ≤ count (code s) (visits S code r)
      → Tail S code s r
  unfolding visits
  back {s} good g good-t (Route.enters {s = t} {t = u} legal goal) h = by (ℕ_discrete (code s) (code t))
    where
      by : Dec (code s ≡ code t) → Tail S code s (Route.enters legal goal)
      by (yes e) = back_here good good-t (Route.enters legal goal) e
      by (no e) =
          let other = goal_apart good (laws.keeps good-t legal) g goal in
          absurd (omega (arith, count_other (code s) (code t) (code u ∷ []) e, count_other (code s) (code u) [] other, count_none (code s)))
  back {s} good g good-t (Route.walks {s = t} legal no_goal_lem r) h =
      by (ℕ_discrete (code s) (code t)) (λ in-r. back good g (laws.keeps good-t legal) r in-r)
    where
      by : Dec (code s ≡ code t) → (1 ≤ count (code s) (visits S code r) → Tail S code s r) → Tail S code s (Route.walks legal no_goal_lem r)
      by (yes e) again = back_here good good-t (Route.walks legal no_goal_lem r) e
      by (no e) again =
          let b = again (omega (arith, count_other (code s) (code t) (visits S code r) e)) in
          record {
            moves = b.moves;
            cost = b.cost;
            route = b.route;
            cheaper = omega arith;
            fewer = λ x. omega (arith, b.fewer x, count-more x (code t) (visits S code r));
          }

  -- ---- a route with no loop

  -- a move into a goal visits two places
  two_once : {s t : S.Place} {m p : ℕ} → Good s → S.goal s ≡ false → (legal : Legal S s m p t) (goal : S.goal t ≡ true)
      → Once (visits S code (Route.enters legal goal))
  unfolding visits
  two_once {s} {t} good g legal goal =
      let other = goal_apart good (laws.keeps good legal) g goal in
      once_more (code s) (code t ∷ []) (count_other (code s) (code t) [] other ∙ count_none (code s)) (once_more (code t) [] (count_none (code t)) once_none)

  -- a move into a goal
  entered : {s t : S.Place} {m p : ℕ} (c : ℕ) → Good s → S.goal s ≡ false → Legal S s m p t → S.goal t ≡ true → p ≤ c → Loopless S code s c
  entered {p = p} c good g legal goal h =
      record { moves = _; cost = p; route = Route.enters legal goal; cheaper = h; once = two_once good g legal goal }

  -- a move, then a route with no loop: both, or where the route comes back its tail from there
  walked : {s t : S.Place} {m p c : ℕ} → Good s → S.goal s ≡ false → Legal S s m p t → S.goal t ≡ false → Loopless S code t c
      → Loopless S code s (p + c)
  unfolding visits
  walked {s} {p = p} {c = c} good g legal no_goal_lem l = by (count (code s) (visits S code l.route)) refl
    where
      by : (n : ℕ) → count (code s) (visits S code l.route) ≡ n → Loopless S code s (p + c)
      by zero e = record {
        moves = _;
        cost = p + l.cost;
        route = Route.walks legal no_goal_lem l.route;
        cheaper = omega arith;
        once = once_more (code s) (visits S code l.route) e l.once;
      }
      by (suc n) e =
          let b = back good g (laws.keeps good legal) l.route (omega arith) in
          record { moves = b.moves; cost = b.cost; route = b.route; cheaper = omega arith; once = λ x. omega (arith, b.fewer x, l.once x) }

  -- every rival has a route that visits no place twice and costs no more
  loopless : {s : S.Place} {ms : List ℕ} {c : ℕ} → Good s → S.goal s ≡ false → Rival S s ms c → Loopless S code s c
  loopless good g (Rival.enters {p = p} legal goal) = entered p good g legal goal (omega arith)
  loopless good g (Rival.walks {s = s} {t = t} {p = p} {c = c} legal r) = by (S.goal t) refl (λ no_goal_lem. loopless (laws.keeps good legal) no_goal_lem r)
    where
      by : (b : Bool) → S.goal t ≡ b → (S.goal t ≡ false → Loopless S code t c) → Loopless S code s (p + c)
      by true goal again = entered (p + c) good g legal goal (omega arith)
      by false no_goal_lem again = walked good g legal no_goal_lem (again no_goal_lem)

  -- every rival has a route of fewer than size moves that costs no more
  pub shorter : {s : S.Place} {ms : List ℕ} {c : ℕ} → Good s → S.goal s ≡ false → Rival S s ms c
      → (ns : List ℕ) × (d : ℕ) × Route S s ns d × (d ≤ c) × (length ns < size)
  shorter good g r = let l = loopless good g r in (l.moves, l.cost, l.route, l.cheaper, once_short good l.route l.once)

  -- ---- a cheapest route

  -- a route that no other undercuts visits no place twice: from there its tail would cost less
  cheapest_once : {s : S.Place} {ms : List ℕ} {n : ℕ} → Good s → S.goal s ≡ false → (r : Route S s ms n)
      → ((ns : List ℕ) (d : ℕ) → Route S s ns d → n ≤ d) → Once (visits S code r)
  unfolding visits
  cheapest_once good g (Route.enters legal goal) least = two_once good g legal goal
  cheapest_once good g (Route.walks {s = s} {p = p} legal no_goal_lem r) least =
      once_more (code s) (visits S code r) (by (count (code s) (visits S code r)) refl)
      (cheapest_once (laws.keeps good legal) no_goal_lem r (λ ns d q. omega (arith, least (_ ∷ ns) (p + d) (Route.walks legal no_goal_lem q))))
    where
      by : (k : ℕ) → count (code s) (visits S code r) ≡ k → count (code s) (visits S code r) ≡ 0
      by zero e = e
      by (suc k) e =
          let b = back good g (laws.keeps good legal) r (omega arith) in
          absurd (omega (arith, least b.moves b.cost b.route, b.cheaper, laws.costs good legal))

  -- a route that no other undercuts has fewer than size moves
  pub cheapest_short : {s : S.Place} {ms : List ℕ} {n : ℕ} → Good s → S.goal s ≡ false → Route S s ms n
      → ((ns : List ℕ) (d : ℕ) → Route S s ns d → n ≤ d) → length ms < size
  cheapest_short good g r least = once_short good r (cheapest_once good g r least)
