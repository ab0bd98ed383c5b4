-- Reading the moves of a join with arrays comes to what reading them by the definition comes to.
--     judged-same       a move is judged by its byte as by the unjoined pins
--     MovesMeet         what the two readings have in common
--     moves_follow      the law
use Prim.Native.Nat.{ℕ, zero, suc, ◌+◌, ◌≤◌, ◌<◌}
use mathlib.Core.Path.{◌≡◌, refl, sym, ap, subst, ◌∙◌}
use mathlib.Core.Logic.{◌⊎◌, inl, inr}
use mathlib.Core.List.{List, [], ◌∷◌, ◌++◌, append_assoc, append-nil}
use mathlib.Core.Bool.{Bool, true, false, ◌||◌, or-true, cond, not}
use native.Mathlib.Omega.{arith}
use lib.ListN.{length}
use lib.Dec.{eqb}
use borrow.Author.Tests.{ne_eqb}
use Rattle.bits.specs.Bits.{field}
use Rattle.job.specs.Reading.{good, ◌>>=◌, ◌>>◌, rule}
use Rattle.job.proofs.Binds.{then_good}
use Rattle.rules.specs.Views.{View, member}
use Rattle.rules.specs.Segments.{Place}
use Rattle.rules.specs.Prices.{Tech}
use Rattle.rules.specs.Places.{GoodTech, GoodPlace}
use Rattle.rules.specs.Steps.{Made, Stepped, illegal, legal, step}
use Rattle.rules.specs.Walks.{vertices_of}
use Rattle.rules.specs.Standings.{Standing}
use Rattle.rules.proofs.Members.{member-append, member_both, member_here}
use Rattle.plan.specs.Reading.{group, Moved, with_move, judged, read_moves}
use Rattle.plan.proofs.Moves.{judged_good}
use Rattle.tree.specs.Spots.{Spots}
use Rattle.tree.proofs.Spots.{spot_goal}
use Rattle.walker.specs.Entering.{Arrays, enter_by, Gone, gone_on}
use Rattle.walker.specs.Standing.{Stood}
use Rattle.walker.proofs.Sums.{vertices_then}
use Rattle.walker.proofs.Standing.{walked_by, stood_entered}
use Rattle.walker.proofs.Landing.{Lands, step_lands}
use Rattle.replay.specs.Following.{judged_by, judged_move, moves_from}
use Rattle.replay.proofs.Follow.{Follow, both_good, then_assoc, follow_meets, follow_with, follow_read}

-- no vertex of the tree is an unjoined pin
abbrev pub Apart : (tree unjoined : List ℕ) → Type 0
Apart tree unjoined = (v : ℕ) → member v tree ≡ true → member v unjoined ≡ false

module _ (bits : List ℕ) {t : Tech} (view : View) (good-t : GoodTech t) where
  -- a move is judged by its byte as by the unjoined pins
  judged-same : (tree unjoined spots : List ℕ) (at : ℕ) (last : Bool) (p : Place) → Apart tree unjoined → GoodPlace t p
      → Spots t.grid tree unjoined spots
      → (s : Stepped) → step t view p (field bits at 2) ≡ s → judged_by at last spots s ≡ judged at last unjoined s
  unfolding judged_by judged
  judged-same tree unjoined spots at last p apart on held illegal e = refl
  judged-same tree unjoined spots at last p apart on held (legal made) e =
      let lands = step_lands view p (field bits at 2) good-t on e in
      let w = made.next.vertex in
      ap (λ (b : Bool). ◌>>◌ (rule 17 at (cond b last (not last))) (good made))
      (spot_goal t.grid tree unjoined spots w (apart w) lands.place.vertex held)

  -- what was done so far and the rest are the whole, and the arrays stand for what the moves leave
  abbrev pub MovesMeet : (k : ℕ) → Standing → Gone → Moved → Gone → Arrays → Type 0
  MovesMeet k s gone moved end arrays =
      (end ≡ record { place = moved.last; made = gone.made ++ moved.made })
      × Stood t.grid (walked_by k s (gone.made ++ moved.made)) arrays

  -- reading so many moves follows, from any place and any arrays that stand for what was walked
  abbrev pub Follows : (k : ℕ) → Standing → (n : ℕ) → Type 0
  Follows k s n =
      (at : ℕ) (gone : Gone) (arrays : Arrays) → GoodPlace t gone.place → (1 ≤ n → Apart (s.tree ++ vertices_of gone.made) s.unjoined)
      → Stood t.grid (walked_by k s gone.made) arrays
      → Follow (MovesMeet k s gone) (read_moves bits t view s.unjoined n at gone.place) (moves_from bits t view (suc k) n at gone arrays)

  -- one vertex more keeps the tree apart, if it is no unjoined pin
  apart_more : (tree way unjoined : List ℕ) (w : ℕ) → Apart (tree ++ way) unjoined → member w unjoined ≡ false
      → Apart (tree ++ (way ++ (w ∷ []))) unjoined
  apart_more tree way unjoined w apart new v e = by (member-append v tree (way ++ (w ∷ [])) e)
    where
      in_way : (member v way ≡ true) ⊎ (member v (w ∷ []) ≡ true) → member v unjoined ≡ false
      in_way (inl h) = apart v (member_both v tree way ∙ ap (λ (b : Bool). member v tree || b) h ∙ or-true (member v tree))
      in_way (inr h) = rw (member_here v w h) new

      by : (member v tree ≡ true) ⊎ (member v (way ++ (w ∷ [])) ≡ true) → member v unjoined ≡ false
      by (inl h) = apart v (member_both v tree way ∙ ap (λ (b : Bool). b || member v way) h)
      by (inr h) = in_way (member-append v way (w ∷ []) h)

  -- a legal move that is judged good, and the rest
  made_follow : (k : ℕ) (s : Standing) (n at : ℕ) (gone : Gone) (arrays : Arrays) (made : Made) → k < length s.metal → Lands t made
      → member made.next.vertex s.unjoined ≡ eqb n 0 → Apart (s.tree ++ vertices_of gone.made) s.unjoined
      → Stood t.grid (walked_by k s gone.made) arrays → Follows k s n
      → Follow (MovesMeet k s gone)
      (◌>>=◌ (read_moves bits t view s.unjoined n (at + 2) made.next) (λ rest. good (with_move (field bits at 2) made rest)))
      (moves_from bits t view (suc k) n (at + 2) (gone_on gone made) (enter_by (suc k) made arrays))
  unfolding gone_on with_move
  made_follow k s n at gone arrays made known lands ends apart stood rest-follows =
      follow_with (MovesMeet k s gone) (with_move (field bits at 2) made) (follow_meets moved_on
      (rest-follows (at + 2) (gone_on gone made) (enter_by (suc k) made arrays) lands.place still
      (stood_entered t.grid k s gone.made made arrays known lands.laid lands.place.vertex stood)))
    where
      still : 1 ≤ n → Apart (s.tree ++ vertices_of (gone.made ++ (made ∷ []))) s.unjoined
      still some =
          rw (vertices_then gone.made made)
          (apart_more s.tree (vertices_of gone.made) s.unjoined made.next.vertex apart (ends ∙ ne_eqb n 0 (λ e. omega (arith, e, some))))

      moved_on : (moved : Moved) (end : Gone) (left : Arrays) → MovesMeet k s (gone_on gone made) moved end left
          → MovesMeet k s gone (with_move (field bits at 2) made moved) end left
      moved_on moved end left (e, st) =
          let all = append_assoc gone.made (made ∷ []) moved.made in
          (e ∙ (λ i. record { place = moved.last; made = all i }), subst (λ (z : List Made). Stood t.grid (walked_by k s z) left) all st)

  -- one move and the rest
  more_follow : (k : ℕ) (s : Standing) (n : ℕ) → k < length s.metal → Follows k s n → Follows k s (suc n)
  unfolding read_moves moves_from judged_move walked_by
  more_follow k s n known rest-follows at gone arrays on apart stood =
      let m = field bits at 2 in
      let x = step t view gone.place m in
      let read = ◌>>◌ (group bits at 2) (judged at (eqb n 0) s.unjoined x) in
      rw (
        ← then_assoc (group bits at 2) (judged at (eqb n 0) s.unjoined x)
            (λ made. ◌>>=◌ (read_moves bits t view s.unjoined n (at + 2) made.next) (λ rest. good (with_move m made rest))),
        same x refl,
      )
      (follow_read (MovesMeet k s gone) read arrays _ _ (λ made e.
      let (is, ends) = (judged_good at (eqb n 0) s.unjoined x made).0 ((then_good (group bits at 2) _ made).0 e).1 in
      made_follow k s n at gone arrays made known (step_lands view gone.place m good-t on is) ends (apart (omega arith)) stood rest-follows))
    where
      same : (x : Stepped) → step t view gone.place (field bits at 2) ≡ x
          → judged_by at (eqb n 0) arrays.spots x ≡ judged at (eqb n 0) s.unjoined x
      same = judged-same (s.tree ++ vertices_of gone.made) s.unjoined arrays.spots at (eqb n 0) gone.place (apart (omega arith)) on stood.spots

  -- the law
  pub moves_follow : (k : ℕ) (s : Standing) (n : ℕ) → k < length s.metal → Follows k s n
  unfolding read_moves moves_from
  moves_follow k s zero known at gone arrays on apart stood =
      let none = sym (append-nil gone.made) in
      both_good refl refl (
        λ i. record { place = gone.place; made = none i },
        subst (λ (z : List Made). Stood t.grid (walked_by k s z) arrays) none stood,
      )
  moves_follow k s (suc n) known at gone arrays on apart stood = more_follow k s n known (moves_follow k s n known) at gone arrays on apart stood
