-- A list of moves that walks is entered whole, and the arrays stand for what it leaves.
--     enter_step      a list by its first move
--     enter_kept      past the grid the map is as it was
--     EnteredBy       what entering moves after others comes to
--     enter_walk      the law
use Prim.Native.Nat.{ℕ, suc, ◌<◌}
use mathlib.Core.Path.{◌≡◌, refl, sym, ap, subst, ◌∙◌}
use mathlib.Core.List.{List, [], ◌∷◌, ◌++◌, append_assoc, append-nil}
use lib.ListN.{length}
use Rattle.job.specs.Lists.{All}
use Rattle.job.specs.Grid.{vertices}
use Rattle.rules.specs.Views.{View}
use Rattle.rules.specs.Segments.{Place}
use Rattle.rules.specs.Prices.{Tech}
use Rattle.rules.specs.Places.{GoodTech, GoodPlace}
use Rattle.rules.specs.Steps.{Made, legal, step}
use Rattle.rules.specs.Walks.{walked, walk}
use Rattle.rules.specs.Standings.{Standing}
use Rattle.rules.proofs.Laid.{all_append}
use Rattle.rules.proofs.Walks.{walk_first}
use Rattle.metal.specs.Codes.{Beyond}
use Rattle.metal.proofs.Laid.{laid_beyond}
use Rattle.metal.proofs.Slices.{beyond_refl, beyond_trans}
use Rattle.walker.specs.Entering.{Arrays, enter_by, Gone, gone_on, entered, and_enter, enter_all}
use Rattle.walker.specs.Standing.{Stood}
use Rattle.walker.proofs.Standing.{walked_by, stood_entered}
use Rattle.walker.proofs.Landing.{Lands, step_lands}

-- a list by its first move
pub enter_step : (t : Tech) (view : View) (net m : ℕ) (ms : List ℕ) (gone : Gone) (arrays : Arrays) {made : Made} → step t view gone.place m ≡ legal made
    → enter_all t view net (m ∷ ms) gone arrays ≡ enter_all t view net ms (gone_on gone made) (enter_by net made arrays)
unfolding enter_all and_enter
enter_step t view net m ms gone arrays is = rw is refl

-- past the grid the map is as it was
pub enter_kept : {t : Tech} (net : ℕ) (made : Made) (arrays : Arrays) → Lands t made
    → Beyond (vertices t.grid) (enter_by net made arrays).codes arrays.codes
unfolding enter_by All
enter_kept {t} net made arrays lands =
    let w = made.next.vertex in
    laid_beyond (vertices t.grid) net (made.laid ++ (w ∷ [])) arrays.codes
    (all_append (λ v. v < vertices t.grid) made.laid (w ∷ []) lands.laid (lands.place.vertex, tt))

-- moves after others are entered whole: the end and what they did are those of the walk, and the arrays stand
-- for what all of them leave
pub record EnteredBy (t : Tech) (view : View) (k : ℕ) (s : Standing) (ms : List ℕ) (gone : Gone) (arrays : Arrays) (last : Place) (made : List Made) : Type 0 where
  pub left : Arrays
  pub is : enter_all t view (suc k) ms gone arrays ≡ entered (record { place = last; made = gone.made ++ made }) left
  pub stood : Stood t.grid (walked_by k s (gone.made ++ made)) left
  pub kept : Beyond (vertices t.grid) left.codes arrays.codes

module _ {t : Tech} (view : View) (good-t : GoodTech t) (k : ℕ) (s : Standing) (known : k < length s.metal) where
  pub enter_walk : (ms : List ℕ) (gone : Gone) (arrays : Arrays) {last : Place} {made : List Made} → GoodPlace t gone.place
      → Stood t.grid (walked_by k s gone.made) arrays → walk t view gone.place ms ≡ walked last made
      → EnteredBy t view k s ms gone arrays last made
  unfolding walk enter_all gone_on
  enter_walk [] gone arrays {last} {made} on stood goes =
      let place : gone.place ≡ last = cc in
      let none : [] ≡ made = cc in
      let same : gone.made ≡ gone.made ++ made = sym (append-nil gone.made) ∙ ap (λ (ms : List Made). gone.made ++ ms) none in
      record {
        left = arrays;
        is = λ i. entered (record { place = place i; made = same i }) arrays;
        stood = subst (λ (z : List Made). Stood t.grid (walked_by k s z) arrays) same stood;
        kept = beyond_refl _ _;
      }
  enter_walk (m ∷ ms) gone arrays {last} {made} on stood goes =
      let first = walk_first t view gone.place m ms goes in
      let lands = step_lands view gone.place m good-t on first.is in
      let after = enter_by (suc k) first.made arrays in
      let rest = enter_walk ms (gone_on gone first.made) after lands.place
      (stood_entered t.grid k s gone.made first.made arrays known lands.laid lands.place.vertex stood) first.goes in
      let same : (gone.made ++ (first.made ∷ [])) ++ first.rest ≡ gone.made ++ made =
      append_assoc gone.made (first.made ∷ []) first.rest ∙ ap (λ (ms : List Made). gone.made ++ ms) (sym first.parts) in
      record {
        left = rest.left;
        is = enter_step t view (suc k) m ms gone arrays first.is ∙ rest.is ∙ (λ i. entered (record { place = last; made = same i }) rest.left);
        stood = subst (λ (z : List Made). Stood t.grid (walked_by k s z) rest.left) same rest.stood;
        kept = beyond_trans rest.kept (enter_kept (suc k) first.made arrays lands);
      }
