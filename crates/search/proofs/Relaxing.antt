-- A move to another place: its entry is lowered to the cost by this move, unless it is settled or no greater.
--     eased_reached, eased_no_goals, eased_small    each entry is the cost of a walk, to no goal, and small
--     lowered                                       so what the entries have come to stays
--     spread_goes                                   and holds with this move
use Prim.Native.Nat.{ℕ, suc, ◌+◌, ◌≤◌, ◌<◌}
use mathlib.Core.Path.{◌≡◌, sym, ap, ◌∙◌}
use mathlib.Core.Logic.{◌⊎◌, inl, inr}
use mathlib.Core.List.{List}
use mathlib.Core.Bool.{Bool, false, true≢false}
use native.Mathlib.Omega.{arith}
use lib.ListN.{get_or}
use lib.Dec.{eqb}
use Rattle.paths.specs.Systems.{Legal}
use Rattle.paths.specs.Forward.{From}
use Rattle.paths.proofs.Steps.{one_price, one_next}
use Rattle.rules.specs.Views.{View}
use Rattle.rules.specs.Segments.{Place}
use Rattle.rules.specs.Prices.{Tech}
use Rattle.rules.specs.Joins.{places}
use Rattle.rules.specs.Places.{place_code, GoodPlace, GoodTech}
use Rattle.rules.proofs.Places.{code_below, start_good}
use Rattle.search.specs.Fronts.{system_by, starts_by}
use Rattle.search.specs.Spreads.{Spread}
use Rattle.search.proofs.Lawful.{lawful_by}
use Rattle.search.proofs.Easing.{Eased}
use Rattle.search.proofs.Spreading.{entered_stays, spread_more}

module _ {t : Tech} (view : View) (spots : List ℕ) (fine : GoodTech t) where
  -- the byte says that a vertex is an unjoined pin
  abbrev goal : Place → Bool
  goal p = eqb (get_or spots p.vertex 0) 2

  -- a move to another place
  module _ {key : ℕ → ℕ} {settled : ℕ → Type 0} {near : List ℕ} {best limit item number : ℕ}
      (so_far : Spread t view spots key settled near best limit item number) {here next : Place}
      {distance price : ℕ} (on : GoodPlace t here) (is_item : place_code t here ≡ item) (is_key : key item ≡ suc distance)
      (legal : Legal (system_by t view spots) here number price next) (goes : goal next ≡ false) (low : distance + price ≤ limit)
      (order : settled (place_code t next) → key (place_code t next) ≤ suc (distance + price)) {key' : ℕ → ℕ} {settled' : ℕ → Type 0}
      (eased : Eased (places t) key key' settled (place_code t next) (suc (distance + price)))
      (there : (c : ℕ) → c < places t → settled c → settled' c) (back : (c : ℕ) → c < places t → settled' c → settled c) where
    next_good : GoodPlace t next
    next_good = (lawful_by view spots fine).keeps on legal

    -- a place with the number of the one that is entered is it
    is_next : {p : Place} → GoodPlace t p → place_code t p ≡ place_code t next → p ≡ next
    is_next good e = (lawful_by view spots fine).apart good next_good e

    here_no_goal : goal here ≡ false
    here_no_goal = so_far.no_goals on (omega (arith, is_key, ap key is_item))

    -- each entry is the cost of a walk
    eased_reached : {p : Place} {e : ℕ} → GoodPlace t p → key' (place_code t p) ≡ suc e → From (system_by t view spots) (starts_by t view spots) p e
    eased_reached {p} {e} good is = by (eased.which (place_code t p) (code_below good))
      where
        by : (key' (place_code t p) ≡ key (place_code t p)) ⊎ ((place_code t p ≡ place_code t next) × (key' (place_code t p) ≡ suc (distance + price)))
            → From (system_by t view spots) (starts_by t view spots) p e
        by (inl same) = so_far.reached good (sym same ∙ is)
        by (inr (one, new)) =
            let cost : e ≡ distance + price = omega (arith, is, new) in
            rw (is_next good one, cost) (From.goes (so_far.reached on (ap key is_item ∙ is_key)) here_no_goal legal)

    eased_no_goals : {p : Place} → GoodPlace t p → 0 < key' (place_code t p) → goal p ≡ false
    eased_no_goals {p} good some = by (eased.which (place_code t p) (code_below good))
      where
        by : (key' (place_code t p) ≡ key (place_code t p)) ⊎ ((place_code t p ≡ place_code t next) × (key' (place_code t p) ≡ suc (distance + price)))
            → goal p ≡ false
        by (inl same) = so_far.no_goals good (rw (← same) some)
        by (inr (one, new)) = rw (is_next good one) goes

    eased_small : (c : ℕ) → c < places t → key' c ≤ suc limit
    eased_small c h = by (eased.which c h)
      where
        by : (key' c ≡ key c) ⊎ ((c ≡ place_code t next) × (key' c ≡ suc (distance + price))) → key' c ≤ suc limit
        by (inl same) = omega (arith, same, so_far.small c h)
        by (inr (one, new)) = omega (arith, new)

    -- the keys of settled places are as they were
    was : {p : Place} {e : ℕ} → GoodPlace t p → settled' (place_code t p) → key' (place_code t p) ≡ suc e → key (place_code t p) ≡ suc e
    was good done is = sym (eased.kept _ (code_below good) (back _ (code_below good) done)) ∙ is

    lowered : Spread t view spots key' settled' near best limit item number
    lowered =
        record {
          starts = λ v h byte.
              let below = code_below (start_good h) in
              let one = so_far.starts v h byte in
              let (some, less) = eased.lower _ below (omega (arith, one)) in
              omega (arith, one);
          reached = eased_reached;
          no_goals = eased_no_goals;
          small = eased_small;
          closed = λ {p} {q} good done tried is l g.
              let (some, up) = so_far.closed good (back _ (code_below good) done) tried (was good done is) l g in
              let (more, less) = eased.lower _ (code_below ((lawful_by view spots fine).keeps good l)) some in
              (more, omega arith);
          least = λ good done tried is l g. so_far.least good (back _ (code_below good) done) tried (was good done is) l g;
          lit = λ good done tried l g. so_far.lit good (back _ (code_below good) done) tried l g;
          found = λ h. entered_stays view spots fine (λ c b d. eased.kept c b d) there (so_far.found h);
          bound = so_far.bound;
        }

    -- the entry that was lowered is within the cost by this move
    next_within : settled (place_code t here) → {e c : ℕ} → key' (place_code t here) ≡ suc e → c ≡ price → key' (place_code t next) ≤ suc (e + c)
    next_within done {e} {c} is paid = by eased.within
      where
        cost : e ≡ distance
        cost = omega (arith, is, eased.kept _ (code_below on) done, ap key is_item, is_key)

        by : settled (place_code t next) ⊎ (key' (place_code t next) ≤ suc (distance + price)) → key' (place_code t next) ≤ suc (e + c)
        by (inl settles) = omega (arith, eased.kept _ (code_below next_good) settles, order settles, cost)
        by (inr less) = omega (arith, cost)

    pub spread_goes : settled item → Spread t view spots key' settled' near best limit item (number + 1)
    spread_goes is-done =
        spread_more view spots fine lowered on is_item
        (λ q e c is l g.
        let same = one_next (sym legal.leads ∙ l.leads) in
        let paid = one_price (sym l.leads ∙ legal.leads) in
        rw (← same) (eased.there, next_within (rw is_item is-done) is paid))
        (λ q e c is l g. absurd (true≢false (sym g ∙ sym (ap goal (one_next (sym legal.leads ∙ l.leads))) ∙ goes)))
        (λ q c l g. absurd (true≢false (sym g ∙ sym (ap goal (one_next (sym legal.leads ∙ l.leads))) ∙ goes)))
