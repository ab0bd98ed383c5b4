-- What the arrays stand for while a join is walked.
--     walked_by        a standing after the moves so far
--     stood_entered    a move that is entered
--     stood_begun      before the first move
--     stood_joined     after the last
--     end_entered      the end of a join is among the vertices that it enters
--     net_joined       what is known before a record is known after a join
use Prim.Native.Nat.{ℕ, zero, suc, ◌<◌}
use mathlib.Core.Path.{◌≡◌, refl, sym, ap, subst, ◌∙◌}
use mathlib.Core.List.{List, [], ◌∷◌, ◌++◌, flat_map, append_assoc, append-nil}
use mathlib.Core.Bool.{Bool, true, false, ◌||◌, or-true}
use native.Mathlib.Omega.{arith}
use lib.ListN.{length, set, length-set}
use Rattle.job.specs.Lists.{All}
use Rattle.job.specs.Grid.{Grid, vertices}
use Rattle.job.specs.Job.{Job}
use Rattle.rules.specs.Views.{View, member}
use Rattle.rules.specs.Prices.{tech_of}
use Rattle.rules.specs.Steps.{Made}
use Rattle.rules.specs.Walks.{vertices_of, laid_of}
use Rattle.rules.specs.Standings.{Standing, without, more, joined_by}
use Rattle.rules.specs.Apart.{Stands}
use Rattle.rules.proofs.Own.{view_own}
use Rattle.rules.proofs.Members.{not_both, member_one, member_both, without_less}
use Rattle.rules.proofs.Laid.{all_append}
use Rattle.metal.specs.Codes.{lay_all, Codes}
use Rattle.metal.proofs.Coded.{codes_laid, codes_alike}
use Rattle.metal.proofs.Laid.{laid_beyond}
use Rattle.tree.specs.Spots.{Spots}
use Rattle.tree.proofs.Spots.{spots_entered, spots_joined}
use Rattle.walker.specs.Entering.{Arrays, enter_by}
use Rattle.walker.specs.Standing.{Stood, AtNet}
use Rattle.walker.proofs.Sums.{vertices_then, laid_then}

-- a standing of net k after the moves so far: the pin at their end is not yet joined
unfoldable pub walked_by : (k : ℕ) → Standing → List Made → Standing
walked_by k s ms =
    record { tree = s.tree ++ vertices_of ms; unjoined = s.unjoined; metal = more k (vertices_of ms ++ laid_of ms) s.metal }

-- more of one net twice
more-more : (k : ℕ) (xs ys : List ℕ) (metal : List (List ℕ)) → more k ys (more k xs metal) ≡ more k (xs ++ ys) metal
unfolding more
more-more k xs ys [] = refl
more-more zero xs ys (m ∷ ms) = ap (λ (z : List ℕ). z ∷ ms) (append_assoc m xs ys)
more-more (suc k) xs ys (m ∷ ms) = ap (λ (z : List (List ℕ)). m ∷ z) (more-more k xs ys ms)

-- there are as many nets
pub more-length : (k : ℕ) (vs : List ℕ) (metal : List (List ℕ)) → length (more k vs metal) ≡ length metal
unfolding more
more-length k vs [] = refl
more-length zero vs (m ∷ ms) = refl
more-length (suc k) vs (m ∷ ms) = ap suc (more-length k vs ms)

-- four lists in two orders have the same members
regroup : (v : ℕ) (xs ls ms ws : List ℕ) → member v ((xs ++ ls) ++ (ms ++ ws)) ≡ member v ((xs ++ ws) ++ (ls ++ ms))
regroup v xs ls ms ws =
    rw (
      member_both v (xs ++ ls) (ms ++ ws),
      member_both v xs ls,
      member_both v ms ws,
      member_both v (xs ++ ws) (ls ++ ms),
      member_both v xs ws,
      member_both v ls ms,
    ) (by (member v xs) (member v ls) (member v ms) (member v ws))
  where
    by : (a b c d : Bool) → ((a || b) || (c || d)) ≡ ((a || d) || (b || c))
    by true b c d = refl
    by false true c true = refl
    by false true c false = refl
    by false false true true = refl
    by false false true false = refl
    by false false false true = refl
    by false false false false = refl

-- a move that is entered: it lays vertices of the grid and enters one
pub stood_entered : (g : Grid) (k : ℕ) (s : Standing) (ms : List Made) (made : Made) (arrays : Arrays) → k < length s.metal
    → All (λ v. v < vertices g) made.laid → made.next.vertex < vertices g → Stood g (walked_by k s ms) arrays
    → Stood g (walked_by k s (ms ++ (made ∷ []))) (enter_by (suc k) made arrays)
unfolding walked_by enter_by All
stood_entered g k s ms made arrays known laid on stood =
    let w = made.next.vertex in
    let news = made.laid ++ (w ∷ []) in
    let metal = more k (vertices_of ms ++ laid_of ms) s.metal in
    let below = all_append (λ v. v < vertices g) made.laid (w ∷ []) laid (on, tt) in
    let many : k < length metal = rw more-length known in
    let codes = codes_laid g metal k news arrays.codes many stood.size below stood.codes in
    let one = subst (λ (m : List (List ℕ)). Codes g m (lay_all (suc k) news arrays.codes)) (more-more k (vertices_of ms ++ laid_of ms) news s.metal) codes in
    let spots = spots_entered g (s.tree ++ vertices_of ms) s.unjoined arrays.spots w (omega (arith, on, stood.room)) stood.spots in
    rw (vertices_then ms made, laid_then ms made) (record {
      spots = subst (λ (tree : List ℕ). Spots g tree s.unjoined (set arrays.spots w 1)) (append_assoc s.tree (vertices_of ms) (w ∷ [])) spots;
      codes =
          codes_alike g s.metal k ((vertices_of ms ++ laid_of ms) ++ news) ((vertices_of ms ++ (w ∷ [])) ++ (laid_of ms ++ made.laid)) _
          (λ v. regroup v (vertices_of ms) (laid_of ms) made.laid (w ∷ [])) one;
      room = rw length-set stood.room;
      size = omega (arith, (laid_beyond (vertices g) (suc k) news arrays.codes below).size, stood.size);
    })

-- before the first move
pub stood_begun : (g : Grid) (k : ℕ) (s : Standing) (arrays : Arrays) → Stood g s arrays → Stood g (walked_by k s []) arrays
unfolding walked_by flat_map more
stood_begun g k s arrays stood =
    record {
      spots = rw append-nil stood.spots;
      codes = rw (more_none k s.metal) stood.codes;
      room = stood.room;
      size = stood.size;
    }
  where
    more_none : (k : ℕ) (metal : List (List ℕ)) → more k ([] ++ []) metal ≡ metal
    more_none k [] = refl
    more_none zero (m ∷ ms) = ap (λ (z : List ℕ). z ∷ ms) (append-nil m)
    more_none (suc k) (m ∷ ms) = ap (λ (z : List (List ℕ)). m ∷ z) (more_none k ms)

-- after the last: the pin at the end, which was entered, is joined
pub stood_joined : (g : Grid) (k : ℕ) (s : Standing) (made : List Made) (end : ℕ) (arrays : Arrays) → member end (s.tree ++ vertices_of made) ≡ true
    → Stood g (walked_by k s made) arrays → Stood g (joined_by k s end made) arrays
unfolding walked_by joined_by
stood_joined g k s made end arrays on stood =
    record {
      spots = spots_joined g (s.tree ++ vertices_of made) s.unjoined arrays.spots end on stood.spots;
      codes = stood.codes;
      room = stood.room;
      size = stood.size;
    }

-- the end of a join is among the vertices that it enters
pub end_entered : (v : ℕ) (tree way : List ℕ) {vs : List ℕ} → vs ≡ way ++ (v ∷ []) → member v (tree ++ vs) ≡ true
end_entered v tree way {vs} e =
    member_both v tree vs ∙ ap (λ (b : Bool). member v tree || b)
    (ap (member v) e ∙ member_both v way (v ∷ []) ∙ ap (λ (b : Bool). member v way || b) (member_one v) ∙ or-true (member v way)) ∙ or-true (member v tree)

-- a pin that is left was there before
without-member : (v w : ℕ) (ps : List ℕ) → member v (without w ps) ≡ true → member v ps ≡ true
without-member v w ps e = by (member v ps) refl
  where
    by : (b : Bool) → member v ps ≡ b → b ≡ true
    by true h = refl
    by false h = absurd (not_both e (without_less v w ps h))

-- what is known before a record is known after a join
pub net_joined : (j : Job) (k : ℕ) (view : View) (pins : List ℕ) (s : Standing) (made : List Made) (end : ℕ) (before after : Arrays)
    → AtNet j k view pins s before → Stands (tech_of j) (joined_by k s end made) → Stood j.grid (joined_by k s end made) after
    → AtNet j k view pins (joined_by k s end made) after
unfolding joined_by
net_joined j k view pins s made end before after here apart stood =
    record {
      stood = stood;
      apart = apart;
      known = rw more-length here.known;
      among = λ v e. here.among v (without-member v end s.unjoined e);
      sees = here.sees ∙ sym (view_own j k _ s.metal);
    }
