-- Places get leads from the last settled one to the first.
--     Searched, searched_by    what a search that found an unjoined pin has left
--     Retracing                so many settled places are not asked
--     retracing_begun          none is asked yet
use Prim.Native.Nat.{ℕ, ◌/◌, ◌≤◌, ◌<◌}
use mathlib.Core.Path.{◌≡◌, refl}
use mathlib.Core.List.{List}
use mathlib.Core.Bool.{Bool, true, false, cond}
use native.Mathlib.Omega.{arith}
use native.Mathlib.Decide.{dec_lt}
use lib.ListN.{length, get_or}
use lib.Dec.{eqb}
use Rattle.job.specs.Grid.{vertices}
use Rattle.paths.specs.Systems.{Legal}
use Rattle.paths.specs.Costs.{Cost, fin}
use Rattle.paths.specs.Starts.{Starts}
use Rattle.paths.specs.Leads.{lowest_lead, is_led}
use Rattle.rules.specs.Views.{View}
use Rattle.rules.specs.Segments.{Place}
use Rattle.rules.specs.Prices.{Tech}
use Rattle.rules.specs.Joins.{places}
use Rattle.rules.specs.Walks.{start_at}
use Rattle.rules.specs.Places.{place_code, GoodPlace, GoodTech}
use Rattle.rules.proofs.Places.{code_below, start_good}
use Rattle.heap.specs.Heaps.{slot_of, In}
use Rattle.heap.proofs.Words.{open_or_not}
use Rattle.bounds.specs.Bounds.{Bounding}
use Rattle.search.specs.Fronts.{system_by, starts_by, reached_by, led_by, lead_at}
use Rattle.search.specs.Lists.{list_at, Done, Laid}
use Rattle.search.specs.Bits.{HasMove}
use Rattle.search.specs.Spreads.{keys, Ended}
use Rattle.search.proofs.Lawful.{lawful_by}
use Rattle.search.proofs.Leads.{led_told, Lead}

module _ (t : Tech) (view : View) (spots bounds work₀ : List ℕ) (settled best : ℕ) where
  -- what a search that found an unjoined pin has left
  pub record Searched : Type 0 where
    pub fine : GoodTech t
    pub bounding : Bounding t spots bounds
    pub near : List ℕ
    pub size : ℕ
    pub ended : Ended t view spots bounds near work₀ size settled best

  abbrev X : Starts (system_by t view spots)
  X = starts_by t view spots

  abbrev E : Place → Cost
  E = reached_by t bounds work₀

  -- so many settled places are not asked:
  -- the others have leads just where a move leads on, and each tells the lowest; only the moves of a
  -- vertex's byte may; and of the starts with leads the lowest is known
  pub record Retracing (near work : List ℕ) (left start : ℕ) : Type 0 where
    pub few : left ≤ settled
    pub long : length work ≡ length work₀
    pub same : (c : ℕ) → keys work c ≡ keys work₀ c
    pub rest : (j : ℕ) → places t ≤ j → get_or work j 0 ≡ get_or work₀ j 0
    pub laid : (size last : ℕ) → Laid (places t) size settled last work₀ → Laid (places t) size settled last work
    pub within : {p : Place} {e : ℕ} → GoodPlace t p → E p ≡ fin e → led_by t work p ≡ true → e ≤ best
    pub leads : {p : Place} {e : ℕ} → GoodPlace t p → E p ≡ fin e → led_by t work p ≡ true → (m : ℕ) × Lead t view spots bounds work₀ work best p e m
    pub made : (i : ℕ) → left ≤ i → i < settled → {p : Place} {e m : ℕ} → GoodPlace t p → place_code t p ≡ list_at (places t) work₀ i → E p ≡ fin e
        → Lead t view spots bounds work₀ work best p e m → led_by t work p ≡ true
    pub told : (i : ℕ) → left ≤ i → i < settled → {p : Place} {e : ℕ} → GoodPlace t p → place_code t p ≡ list_at (places t) work₀ i → E p ≡ fin e
        → led_by t work p ≡ true → lead_at t work p ≡ lowest_lead (system_by t view spots) E best (led_by t work) p e
    pub goals : {p q : Place} {m c : ℕ} → GoodPlace t p → Done (places t) work₀ (place_code t p) → Legal (system_by t view spots) p m c q → eqb (get_or spots q.vertex 0) 2 ≡ true
        → HasMove (get_or near p.vertex 0) m
    pub lit : {p q : Place} {m c : ℕ} → GoodPlace t p → Legal (system_by t view spots) p m c q → led_by t work q ≡ true → HasMove (get_or near p.vertex 0) m
    pub bytes : length near ≡ 16384
    pub top : start ≤ vertices t.grid
    pub lower : (v : ℕ) → v < start → is_led X (led_by t work) v ≡ false
    pub there : start < vertices t.grid → is_led X (led_by t work) start ≡ true

module _ {t : Tech} {view : View} {spots bounds work₀ : List ℕ} {settled best : ℕ} where
  abbrev pub searched_by : GoodTech t → Bounding t spots bounds → {near : List ℕ} {size : ℕ} → Ended t view spots bounds near work₀ size settled best
      → Searched t view spots bounds work₀ settled best
  searched_by fine bounding {near} {size} ended = record { fine = fine; bounding = bounding; near = near; size = size; ended = ended }

-- ---- before the first

module _ {t : Tech} {view : View} {spots bounds work₀ : List ℕ} {settled best : ℕ} (found : Searched t view spots bounds work₀ settled best) where
  -- no place has a lead
  no_lead : (c : ℕ) → c < places t → slot_of (get_or work₀ c 0) / 4 ≡ 262142 → ⊥
  unfolding slot_of
  no_lead c h is = by (dec_lt 0 (keys work₀ c)) (open_or_not (places t) (get_or work₀ c 0))
    where
      laid : Laid (places t) found.size settled found.ended.between.last work₀
      laid = found.ended.between.laid

      by : Dec (0 < keys work₀ c) → Dec (In work₀ (places t) c) → ⊥
      by (no none) o = let key : keys work₀ c ≡ 0 = omega arith in omega (arith, laid.bare c h key, is)
      by (yes touched) (yes o) = omega (arith, is, o.placed, laid.heaped.seated.few)
      by (yes touched) (no o) = omega (arith, is, found.ended.between.plain c h (record { touched = touched; out = o }))

  pub retracing_begun : Retracing t view spots bounds work₀ settled best found.near work₀ settled (vertices t.grid)
  retracing_begun =
      record {
        few = omega arith;
        long = refl;
        same = λ c. refl;
        rest = λ j h. refl;
        laid = λ size last l. l;
        within = λ good at is. absurd (not_led good is);
        leads = λ good at is. absurd (not_led good is);
        made = λ i h k. absurd (omega arith);
        told = λ i h k. absurd (omega arith);
        goals = λ good done legal g. found.ended.between.spread.lit good done (λ f. legal.known) legal g;
        lit = λ good legal is. absurd (not_led ((lawful_by view spots found.fine).keeps good legal) is);
        bytes = found.ended.between.bytes;
        top = omega arith;
        lower = λ v h. unstarted v h;
        there = λ h. absurd (omega arith);
      }
    where
      not_led : {p : Place} → GoodPlace t p → led_by t work₀ p ≡ true → ⊥
      not_led {p} good is = no_lead (place_code t p) (code_below good) (led_told t work₀ p is)

      unstarted : (v : ℕ) → v < vertices t.grid → is_led (starts_by t view spots) (led_by t work₀) v ≡ false
      unstarted v h = by ((starts_by t view spots).is_start v) (led_by t work₀ (start_at v)) refl
        where
          by : (a b : Bool) → led_by t work₀ (start_at v) ≡ b → cond a b false ≡ false
          by true true is = absurd (not_led (start_good h) is)
          by true false is = refl
          by false b is = refl
