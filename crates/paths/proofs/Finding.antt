-- What is found is the cheapest route, the first by move number among equals.
--     Earlier, earlier_trans              a cost and moves that come no later than others
--     Heads, Earliest, earliest           the cheapest of several, each of which begins with its own number
--     EarliestIn, at_goal, earliest_in    the cheapest route of at most so many moves from a place
use Prim.Native.Nat.{ℕ, zero, suc, ◌+◌, ◌≤◌, ◌<◌}
use native.Mathlib.Omega.{arith}
use native.Mathlib.Decide.{ℕ_discrete}
use mathlib.Core.Path.{◌≡◌, refl, sym, ap, ◌∙◌}
use mathlib.Core.Logic.{◌⊎◌, inl, inr}
use mathlib.Core.List.{List, [], ◌∷◌}
use mathlib.Core.Bool.{Bool, true, false, cond}
use lib.ListN.{length}
use lib.Dec.{ltb}
use borrow.Author.Tests.{ltb-true, ltb-false}
use Rattle.paths.specs.Systems.{Step, blocked, to, System}
use Rattle.paths.specs.Rivals.{Route, enters, walks, Before, lower, later}
use Rattle.paths.specs.Finding.{Found, none, found, cheaper, cheapest_of, before, onward, cheapest_in}
use Rattle.paths.proofs.Orders.{before_trans}

-- ---- the order

-- a cost and moves come no later than others: cheaper, or as cheap and the same moves or moves before them
abbrev pub Earlier : (c : ℕ) (ms : List ℕ) (d : ℕ) (ns : List ℕ) → Type 0
Earlier c ms d ns = (c < d) ⊎ ((c ≡ d) × ((ms ≡ ns) ⊎ Before ms ns))

-- the same
earlier_same : {c d : ℕ} {ms ns : List ℕ} → c ≡ d → ms ≡ ns → Earlier c ms d ns
earlier_same e f = inr (e, inl f)

pub earlier_trans : {c d e : ℕ} {ms ns os : List ℕ} → Earlier c ms d ns → Earlier d ns e os → Earlier c ms e os
earlier_trans (inl h) (inl k) = inl (omega (arith, h, k))
earlier_trans (inl h) (inr (e, f)) = inl (omega (arith, h, e))
earlier_trans (inr (e, f)) (inl k) = inl (omega (arith, k, e))
earlier_trans {ms = ms} {ns = ns} {os = os} (inr (e, f)) (inr (g, h)) = inr (e ∙ g, by f h)
  where
    by : (ms ≡ ns) ⊎ Before ms ns → (ns ≡ os) ⊎ Before ns os → (ms ≡ os) ⊎ Before ms os
    by (inl a) (inl b) = inl (a ∙ b)
    by (inl a) (inr b) = inr (rw a b)
    by (inr a) (inl b) = inr (rw b at a)
    by (inr a) (inr b) = inr (before_trans a b)

-- one move at one price before both
earlier_before : (m p : ℕ) {c d : ℕ} {ms ns : List ℕ} → Earlier c ms d ns → Earlier (p + c) (m ∷ ms) (p + d) (m ∷ ns)
earlier_before m p (inl h) = inl (omega (arith, h))
earlier_before m p (inr (e, inl f)) = inr (ap (λ (x : ℕ). p + x) e, inl (ap (λ (xs : List ℕ). m ∷ xs) f))
earlier_before m p (inr (e, inr f)) = inr (ap (λ (x : ℕ). p + x) e, inr (later f))

-- nothing is found, and something is
none_found : {A : Type 0} {c : ℕ} {ms : List ℕ} → none ≡ found c ms → A
none_found e = let z : ◌≡◌ {A = ℕ} 0 1 = cc in absurd (omega arith)

-- ---- the cheapest of several

-- what is found for a number begins with it
abbrev pub Heads : (ℕ → Found) → Type 0
Heads E = (m c : ℕ) (xs : List ℕ) → E m ≡ found c xs → (ys : List ℕ) × (xs ≡ m ∷ ys)

-- none of the first n found anything; or this one did, and no other earlier
pub data Earliest (E : ℕ → Found) (n : ℕ) : Found → Type 0 where
  nothing : ((m : ℕ) → m < n → E m ≡ none) → Earliest E n none
  this : {c : ℕ} {xs : List ℕ} (m : ℕ) → m < n → E m ≡ found c xs
      → ((l : ℕ) → l < n → (d : ℕ) (ys : List ℕ) → E l ≡ found d ys → Earlier c xs d ys) → Earliest E n (found c xs)

-- below the next number: below this one, or it
below_next : (m n : ℕ) → m < suc n → (m ≡ n) ⊎ (m < n)
below_next m n h = by (ℕ_discrete m n)
  where
    by : Dec (m ≡ n) → (m ≡ n) ⊎ (m < n)
    by (yes e) = inl e
    by (no ne) = inr (omega (arith, h, ne))

module _ (E : ℕ → Found) (heads : Heads E) (n : ℕ) where
  -- a number that found as cheaply, before the last
  head_before : {m c d : ℕ} {xs ys : List ℕ} → m < n → E m ≡ found c xs → E n ≡ found d ys → Before xs ys
  head_before {m} {c} {d} {xs} {ys} h e f =
      let (mine, is) = heads m c xs e in
      let (theirs, are) = heads n d ys f in
      rw (is, are) (lower h)

  -- one more
  earliest_next : (a b : Found) → E n ≡ b → Earliest E n a → Earliest E (suc n) (cheaper a b)
  unfolding cheaper
  earliest_next none none e (nothing empty) = nothing (λ m h. by m (below_next m n h))
    where
      by : (m : ℕ) → (m ≡ n) ⊎ (m < n) → E m ≡ none
      by m (inl same) = ap E same ∙ e
      by m (inr below) = empty m below
  earliest_next none (found d ns) e (nothing empty) = this n (omega arith) e (λ l h x ys is. by l x ys is (below_next l n h))
    where
      by : (l x : ℕ) (ys : List ℕ) → E l ≡ found x ys → (l ≡ n) ⊎ (l < n) → Earlier d ns x ys
      by l x ys is (inl same) =
          let both : found d ns ≡ found x ys = sym e ∙ ap E (sym same) ∙ is in
          earlier_same (cc) (cc)
      by l x ys is (inr below) = none_found (sym (empty l below) ∙ is)
  earliest_next (found c ms) none e (this m below em best) = this m (omega arith) em (λ l h x ys is. by l x ys is (below_next l n h))
    where
      by : (l x : ℕ) (ys : List ℕ) → E l ≡ found x ys → (l ≡ n) ⊎ (l < n) → Earlier c ms x ys
      by l x ys is (inl same) = none_found (sym e ∙ ap E (sym same) ∙ is)
      by l x ys is (inr less) = best l less x ys is
  earliest_next (found c ms) (found d ns) e (this m below em best) = test (ltb d c) refl
    where
      test : (t : Bool) → ltb d c ≡ t → Earliest E (suc n) (cond t (found d ns) (found c ms))
      test true lt = this n (omega arith) e (λ l h x ys is. by l x ys is (below_next l n h))
        where
          by : (l x : ℕ) (ys : List ℕ) → E l ≡ found x ys → (l ≡ n) ⊎ (l < n) → Earlier d ns x ys
          by l x ys is (inl same) =
              let both : found d ns ≡ found x ys = sym e ∙ ap E (sym same) ∙ is in
              earlier_same (cc) (cc)
          by l x ys is (inr less) = earlier_trans (inl (ltb-true d c lt)) (best l less x ys is)
      test false ge = this m (omega arith) em (λ l h x ys is. by l x ys is (below_next l n h))
        where
          behind : Dec (c ≡ d) → Earlier c ms d ns
          behind (yes same) = inr (same, inr (head_before below em e))
          behind (no ne) = inl (omega (arith, ne, ltb-false d c ge))

          by : (l x : ℕ) (ys : List ℕ) → E l ≡ found x ys → (l ≡ n) ⊎ (l < n) → Earlier c ms x ys
          by l x ys is (inl same) =
              let both : found d ns ≡ found x ys = sym e ∙ ap E (sym same) ∙ is in
              earlier_trans (behind (ℕ_discrete c d)) (earlier_same (cc) (cc))
          by l x ys is (inr less) = best l less x ys is

-- of all
pub earliest : (E : ℕ → Found) → Heads E → (n : ℕ) → Earliest E n (cheapest_of E n)
unfolding cheapest_of
earliest E heads zero = nothing (λ m h. absurd (omega (arith, h)))
earliest E heads (suc n) = earliest_next E heads n (cheapest_of E n) (E n) refl (earliest E heads n)

-- ---- the cheapest route

module _ (S : System) where
  -- no route of at most k moves from a place; or this is one, and no other is earlier
  pub data EarliestIn (k : ℕ) (s : S.Place) : Found → Type 0 where
    no_route : ((ns : List ℕ) (d : ℕ) → Route S s ns d → length ns ≤ k → ⊥) → EarliestIn k s none
    aRoute : {c : ℕ} {ms : List ℕ} → Route S s ms c → ((ns : List ℕ) (d : ℕ) → Route S s ns d → length ns ≤ k → Earlier c ms d ns)
        → EarliestIn k s (found c ms)

  -- at a goal nothing is left
  pub at_goal : (k : ℕ) (s : S.Place) → S.goal s ≡ true → cheapest_in S k s ≡ found 0 []
  unfolding cheapest_in
  at_goal zero s g = rw g refl
  at_goal (suc k) s g = rw g refl

  module _ (k : ℕ) (s : S.Place) (from : (t : S.Place) → S.goal t ≡ false → EarliestIn k t (cheapest_in S k t)) where
    -- by each move
    abbrev by_move_lem : ℕ → Found
    by_move_lem m = onward m (cheapest_in S k) (S.step s m)

    -- what is found by a move begins with it
    move_heads : Heads by_move_lem
    unfolding onward before
    move_heads m c xs = by (S.step s m)
      where
        made : (p : ℕ) (f : Found) → before m p f ≡ found c xs → (ys : List ℕ) × (xs ≡ m ∷ ys)
        made p none e = none_found e
        made p (found d ys) e = (ys, cc)

        by : (x : Step S.Place) → onward m (cheapest_in S k) x ≡ found c xs → (ys : List ℕ) × (xs ≡ m ∷ ys)
        by blocked e = none_found e
        by (to p t) e = made p (cheapest_in S k t) e

    -- what is found by a move is a route
    move_route : {m c : ℕ} {xs : List ℕ} → m < S.moves → by_move_lem m ≡ found c xs → Route S s xs c
    unfolding onward before
    move_route {m} {c} {xs} known = by (S.step s m) refl
      where
        on : (p : ℕ) (t : S.Place) → S.step s m ≡ to p t → (g : Bool) → S.goal t ≡ g → before m p (cheapest_in S k t) ≡ found c xs → Route S s xs c
        on p t leads true g e =
            let all : found (p + 0) (m ∷ []) ≡ found c xs = ap (before m p) (sym (at_goal k t g)) ∙ e in
            let cost : p ≡ c = let z : p + 0 ≡ c = cc in omega arith in
            let moves : m ∷ [] ≡ xs = cc in
            rw (← moves, ← cost) (enters (record { known = known; leads = leads }) g)
        on p t leads false g e = way (cheapest_in S k t) (from t g) e
          where
            way : (f : Found) → EarliestIn k t f → before m p f ≡ found c xs → Route S s xs c
            way none (no_route empty) is = none_found is
            way (found d ys) (aRoute route best) is =
                let cost : p + d ≡ c = cc in
                let moves : m ∷ ys ≡ xs = cc in
                rw (← moves, ← cost) (walks (record { known = known; leads = leads }) g route)

        by : (x : Step S.Place) → S.step s m ≡ x → onward m (cheapest_in S k) x ≡ found c xs → Route S s xs c
        by blocked leads e = none_found e
        by (to p t) leads e = on p t leads (S.goal t) refl e

    -- a route is found by its first move, or one that is earlier
    route_move : {ns : List ℕ} {d : ℕ} → Route S s ns d → length ns ≤ suc k
        → (m : ℕ) × (m < S.moves) × ((c : ℕ) × ((xs : List ℕ) × ((by_move_lem m ≡ found c xs) × Earlier c xs d ns)))
    unfolding onward before
    route_move (enters {t = t} {m = m} {p = p} legal goal) short = (
      m,
      legal.known,
      (p + 0, (m ∷ [], (rw (legal.leads, at_goal k t goal) refl, earlier_same (omega arith) refl))),
    )
    route_move (walks {t = t} {m = m} {p = p} {c = d} {ms = ns} legal no_goal_lem r) short = way (cheapest_in S k t) refl (from t no_goal_lem)
      where
        way : (f : Found) → cheapest_in S k t ≡ f → EarliestIn k t f
            → (l : ℕ) × (l < S.moves) × ((c : ℕ) × ((xs : List ℕ) × ((by_move_lem l ≡ found c xs) × Earlier c xs (p + d) (m ∷ ns))))
        way none e (no_route empty) = absurd (empty ns d r (omega (arith, short)))
        way (found c ms) e (aRoute route best) =
            (m, legal.known, (p + c, (m ∷ ms, (rw (legal.leads, e) refl, earlier_before m p (best ns d r (omega (arith, short)))))))

    -- so of all moves
    moves_earliest : (f : Found) → Earliest by_move_lem S.moves f → EarliestIn (suc k) s f
    moves_earliest none (nothing empty) =
        no_route (λ ns d r short. let (m, known, (c, (xs, (e, earlier)))) = route_move r short in none_found (sym (empty m known) ∙ e))
    moves_earliest (found c xs) (this m known e best) =
        aRoute (move_route known e) (λ ns d r short.
        let (l, below, (x, (ys, (is, earlier)))) = route_move r short in
        earlier_trans (best l below x ys is) earlier)

  -- what is found in at most k moves, from a place that is no goal
  pub earliest_in : (k : ℕ) (s : S.Place) → S.goal s ≡ false → EarliestIn k s (cheapest_in S k s)
  unfolding cheapest_in
  earliest_in zero s g = rw g (no_route (λ ns d r short. some r short))
    where
      some : {ns : List ℕ} {d : ℕ} → Route S s ns d → length ns ≤ 0 → ⊥
      some (enters legal goal) short = omega (arith, short)
      some (walks legal no_goal_lem r) short = omega (arith, short)
  earliest_in (suc k) s g =
      rw g (moves_earliest k s (λ t away. earliest_in k t away) _ (earliest _ (move_heads k s (λ t away. earliest_in k t away)) S.moves))
