-- What the tree's bytes tell.
--     spots_begun, begun_among, begun_long    before the first join of a net
--     spots_entered                           after a vertex is entered
--     spots_joined                            a pin on the tree is no longer unjoined
--     spot_goal                               a byte tells an unjoined pin
--     some_none, some_one                     whether a pin is unjoined
use Prim.Native.Nat.{ℕ, zero, suc, ◌≤◌, ◌<◌}
use mathlib.Core.Path.{◌≡◌, refl, sym, ap, ◌∙◌}
use mathlib.Core.List.{List, [], ◌∷◌, ◌++◌}
use mathlib.Core.Bool.{Bool, true, false, ◌||◌, or-true, cond}
use native.Mathlib.Omega.{arith}
use lib.ListN.{length, get_or, set, length-set, replicate, length-replicate, get_or-replicate}
use lib.Dec.{eqb, eqb-suc-suc}
use borrow.Author.Tests.{eqb-true, eq-eqb, ne_eqb}
use Rattle.job.specs.Lists.{any, All}
use Rattle.job.specs.Grid.{Grid, vertices}
use Rattle.rules.specs.Views.{member}
use Rattle.rules.specs.Standings.{begun, without}
use Rattle.rules.proofs.Members.{not_both, member_both, without_other}
use Rattle.tree.specs.Spots.{spot_of, Spots, put_all, begun_spots, some_unjoined}

-- a store, read at any vertex
pub set_at : (spots : List ℕ) (w v byte : ℕ) → w < length spots → get_or (set spots w byte) v 0 ≡ cond (eqb v w) byte (get_or spots v 0)
set_at [] w v byte h = absurd (omega (arith, h))
set_at (x ∷ xs) zero zero byte h = refl
set_at (x ∷ xs) zero (suc v) byte h = rw (ne_eqb (suc v) 0 (omega arith)) refl
set_at (x ∷ xs) (suc w) zero byte h = rw (ne_eqb 0 (suc w) (omega arith)) refl
set_at (x ∷ xs) (suc w) (suc v) byte h = rw eqb-suc-suc (set_at xs w v byte (omega (arith, h)))

-- what holds of each by one bound holds by an equal one
all_below_lem : (vs : List ℕ) {m n : ℕ} → m ≡ n → All (λ w. w < m) vs → All (λ w. w < n) vs
all_below_lem vs e h = rw e at h

-- a byte put at several vertices, read at any
put_at : (byte : ℕ) (vs spots : List ℕ) (v : ℕ) → All (λ w. w < length spots) vs → get_or (put_all byte vs spots) v 0 ≡ cond (member v vs) byte (get_or spots v 0)
unfolding put_all member any All
put_at byte [] spots v h = refl
put_at byte (w ∷ vs) spots v h =
    put_at byte vs (set spots w byte) v (all_below_lem vs (sym (length-set spots w byte)) h.1)
    ∙ ap (λ (x : ℕ). cond (member v vs) byte x) (set_at spots w v byte h.0) ∙ by (eqb v w) (member v vs)
  where
    by : (a b : Bool) → cond b byte (cond a byte (get_or spots v 0)) ≡ cond (a || b) byte (get_or spots v 0)
    by true true = refl
    by true false = refl
    by false true = refl
    by false false = refl

-- it is as long
pub length_put : (byte : ℕ) (vs spots : List ℕ) → length (put_all byte vs spots) ≡ length spots
unfolding put_all
length_put byte [] spots = refl
length_put byte (v ∷ vs) spots = length_put byte vs (set spots v byte) ∙ length-set spots v byte

-- before the first join of a net
pub spots_begun : (g : Grid) (pins : List ℕ) (metal : List (List ℕ)) → vertices g ≤ 16384 → All (λ v. v < 16384) pins
    → Spots g (begun pins metal).tree (begun pins metal).unjoined (begun_spots pins (replicate 16384 0))
unfolding Spots spot_of begun begun_spots member any All
spots_begun g [] metal few on v h = get_or-replicate 16384 v 0 0 (omega arith)
spots_begun g (first ∷ others) metal few on v h =
    let bare : List ℕ = replicate 16384 0 in
    let long : length bare ≡ 16384 = length-replicate {A = ℕ} 16384 0 in
    let bound = all_below_lem (first ∷ others) (sym long) on in
    let size : length (put_all 2 (first ∷ others) bare) ≡ 16384 = length_put 2 (first ∷ others) bare ∙ long in
    set_at (put_all 2 (first ∷ others) bare) first v 1 (rw size on.0)
    ∙ ap (λ (x : ℕ). cond (eqb v first) 1 x) (put_at 2 (first ∷ others) bare v bound ∙ ap (λ (x : ℕ). cond (member v (first ∷ others)) 2 x) (get_or-replicate 16384 v 0 0 (omega arith)))
    ∙ by (eqb v first) (member v others)
  where
    by : (a b : Bool) → ◌≡◌ {A = ℕ} (cond a 1 (cond (a || b) 2 0)) (cond (a || false) 1 (cond b 2 0))
    by true b = refl
    by false b = refl

-- every unjoined pin is one of the net's
pub begun_among : (g : Grid) (pins : List ℕ) → vertices g ≤ 16384 → All (λ v. v < 16384) pins → (v : ℕ) → v < vertices g
    → get_or (begun_spots pins (replicate 16384 0)) v 0 ≡ 2 → member v pins ≡ true
unfolding Spots spot_of begun member any
begun_among g pins few on v h is = by pins (sym (spots_begun g pins [] few on v h) ∙ is)
  where
    by : (ps : List ℕ) → spot_of (begun ps []).tree (begun ps []).unjoined v ≡ 2 → member v ps ≡ true
    by [] e = absurd (omega arith)
    by (first ∷ others) e = which (eqb v first) (member v others) e
      where
        which : (a b : Bool) → ◌≡◌ {A = ℕ} (cond (a || false) 1 (cond b 2 0)) 2 → (a || b) ≡ true
        which true b e = refl
        which false true e = refl
        which false false e = absurd (omega arith)

-- the bytes are as many
pub begun_long : (pins : List ℕ) → length (begun_spots pins (replicate 16384 0)) ≡ 16384
unfolding begun_spots
begun_long [] = length-replicate {A = ℕ} 16384 0
begun_long (first ∷ others) =
    length-set (put_all 2 (first ∷ others) (replicate 16384 0)) first 1 ∙ length_put 2 (first ∷ others) (replicate 16384 0)
    ∙ length-replicate {A = ℕ} 16384 0

-- after a vertex is entered
pub spots_entered : (g : Grid) (tree unjoined spots : List ℕ) (w : ℕ) → w < length spots → Spots g tree unjoined spots
    → Spots g (tree ++ (w ∷ [])) unjoined (set spots w 1)
unfolding Spots spot_of member any
spots_entered g tree unjoined spots w on held v h =
    set_at spots w v 1 on ∙ ap (λ (x : ℕ). cond (eqb v w) 1 x) (held v h)
    ∙ by (eqb v w) (member v tree) (member v unjoined) ∙ ap (λ (b : Bool). cond b 1 (cond (member v unjoined) 2 0)) (sym (member_both v tree (w ∷ [])))
  where
    by : (a b c : Bool) → ◌≡◌ {A = ℕ} (cond a 1 (cond b 1 (cond c 2 0))) (cond (b || (a || false)) 1 (cond c 2 0))
    by true true c = refl
    by true false c = refl
    by false true c = refl
    by false false c = refl

-- a pin on the tree is no longer unjoined
pub spots_joined : (g : Grid) (tree unjoined spots : List ℕ) (end : ℕ) → member end tree ≡ true → Spots g tree unjoined spots
    → Spots g tree (without end unjoined) spots
unfolding Spots spot_of
spots_joined g tree unjoined spots end on held v h = held v h ∙ by (member v tree) refl
  where
    by : (b : Bool) → member v tree ≡ b
        → ◌≡◌ {A = ℕ} (cond b 1 (cond (member v unjoined) 2 0)) (cond b 1 (cond (member v (without end unjoined)) 2 0))
    by true e = refl
    by false e =
        let differ : v ≡ end → ⊥ = λ same. not_both (ap (λ (x : ℕ). member x tree) same ∙ on) e in
        ap (λ (x : Bool). cond x 2 0) (sym (without_other v end unjoined differ))

-- a byte tells an unjoined pin, which is not on the tree
pub spot_goal : (g : Grid) (tree unjoined spots : List ℕ) (v : ℕ) → (member v tree ≡ true → member v unjoined ≡ false) → v < vertices g
    → Spots g tree unjoined spots → eqb (get_or spots v 0) 2 ≡ member v unjoined
unfolding Spots spot_of
spot_goal g tree unjoined spots v apart h held = ap (λ (x : ℕ). eqb x 2) (held v h) ∙ by (member v tree) (member v unjoined) apart
  where
    by : (a b : Bool) → (a ≡ true → b ≡ false) → eqb (cond a 1 (cond b 2 0)) 2 ≡ b
    by true true k = absurd (not_both refl (k refl))
    by true false k = refl
    by false true k = refl
    by false false k = refl

-- a byte tells a vertex of the tree
pub spot_tree : (g : Grid) (tree unjoined spots : List ℕ) (v : ℕ) → v < vertices g → Spots g tree unjoined spots
    → eqb (get_or spots v 0) 1 ≡ member v tree
unfolding Spots spot_of
spot_tree g tree unjoined spots v h held = ap (λ (x : ℕ). eqb x 1) (held v h) ∙ by (member v tree) (member v unjoined)
  where
    by : (a b : Bool) → eqb (cond a 1 (cond b 2 0)) 1 ≡ a
    by true b = refl
    by false true = refl
    by false false = refl

-- where no pin's byte says so, none is unjoined
pub some_none : (g : Grid) (tree unjoined pins spots : List ℕ) → ((v : ℕ) → member v tree ≡ true → member v unjoined ≡ false)
    → All (λ v. v < vertices g) pins → ((v : ℕ) → member v unjoined ≡ true → member v pins ≡ true) → Spots g tree unjoined spots
    → some_unjoined spots pins ≡ false → unjoined ≡ []
unfolding some_unjoined any member All
some_none g tree [] pins spots apart on among held e = refl
some_none g tree (u ∷ us) pins spots apart on among held e =
    absurd (not_both (found pins on (among u (first_in u us))) e)
  where
    first_in : (v : ℕ) (vs : List ℕ) → member v (v ∷ vs) ≡ true
    first_in v vs = rw (eq-eqb v v refl) refl

    found : (ps : List ℕ) → All (λ v. v < vertices g) ps → member u ps ≡ true → some_unjoined spots ps ≡ true
    found [] h m = absurd (not_both m refl)
    found (p ∷ ps) h m = by (eqb u p) refl m (found ps h.1)
      where
        by : (b : Bool) → eqb u p ≡ b → (b || member u ps) ≡ true → (member u ps ≡ true → some_unjoined spots ps ≡ true)
            → (eqb (get_or spots p 0) 2 || some_unjoined spots ps) ≡ true
        by true same k rest =
            let goal : eqb (get_or spots p 0) 2 ≡ true =
            spot_goal g tree (u ∷ us) spots p (apart p) h.0 held ∙ ap (λ (v : ℕ). member v (u ∷ us)) (sym (eqb-true u p same)) ∙ first_in u us in
            rw goal refl
        by false same k rest = rw (rest k) (or-true (eqb (get_or spots p 0) 2))

-- where one's does, one is
pub some_one : (g : Grid) (tree unjoined pins spots : List ℕ) → ((v : ℕ) → member v tree ≡ true → member v unjoined ≡ false)
    → All (λ v. v < vertices g) pins → Spots g tree unjoined spots → some_unjoined spots pins ≡ true → unjoined ≡ [] → ⊥
unfolding some_unjoined any member All
some_one g tree unjoined [] spots apart on held e none = not_both e refl
some_one g tree unjoined (p ∷ ps) spots apart on held e none =
    by (eqb (get_or spots p 0) 2) refl e (λ k. some_one g tree unjoined ps spots apart on.1 held k none)
  where
    by : (b : Bool) → eqb (get_or spots p 0) 2 ≡ b → (b || some_unjoined spots ps) ≡ true → (some_unjoined spots ps ≡ true → ⊥) → ⊥
    by true goal k rest =
        not_both (sym (spot_goal g tree unjoined spots p (apart p) on.0 held) ∙ goal) (ap (member p) none ∙ none_in p)
      where
        none_in : (v : ℕ) → member v [] ≡ false
        none_in v = refl
    by false goal k rest = rest k
