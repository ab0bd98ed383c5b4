-- What the entries have come to, place by place and move by move. The keys and the settled places are any;
-- the code's are those of its slice.
--     more_tried        one more move of the place at hand
--     spread_begun      before any place is settled
--     entered_stays     an entered goal stays one where keys and settled places stay
--     spread_all        after all moves of a place
--     spread_take       a place is settled, and none of its moves is tried
--     spread_more       one more move is tried, which lowers no entry and enters no goal for less
--     spread_stopped    a move that is blocked
use Prim.Native.Nat.{ℕ, suc, ◌+◌, ◌≤◌, ◌<◌}
use mathlib.Core.Path.{◌≡◌, refl, sym, ◌∙◌}
use mathlib.Core.Logic.{◌⊎◌, inl, inr}
use mathlib.Core.List.{List}
use mathlib.Core.Bool.{Bool, true, false}
use native.Mathlib.Omega.{arith}
use native.Mathlib.Decide.{ℕ_discrete, dec_lt}
use lib.ListN.{get_or}
use lib.Dec.{eqb}
use Rattle.job.specs.Grid.{vertices}
use Rattle.job.specs.Job.{largest_min_length}
use Rattle.paths.specs.Systems.{blocked, Legal}
use Rattle.paths.specs.Forward.{From}
use Rattle.paths.proofs.Steps.{not_blocked}
use Rattle.rules.specs.Views.{View}
use Rattle.rules.specs.Segments.{Place}
use Rattle.rules.specs.Prices.{Tech}
use Rattle.rules.specs.Walks.{start_at}
use Rattle.rules.specs.Joins.{places}
use Rattle.rules.specs.Places.{place_code, place_at, GoodPlace, GoodTech}
use Rattle.rules.proofs.Places.{code_below, start_good}
use Rattle.search.specs.Fronts.{system_by, starts_by}
use Rattle.search.specs.Bits.{HasMove}
use Rattle.search.specs.Spreads.{Entered, Spread}
use Rattle.search.proofs.Numbers.{place_good, code_place}
use Rattle.search.proofs.Lawful.{lawful_by, tree_no_goal}

module _ {t : Tech} (view : View) (spots : List ℕ) (fine : GoodTech t) where
  -- the place of a number
  abbrev at : ℕ → Place
  at c = place_at (largest_min_length t.lines) c

  -- the byte says that a vertex is an unjoined pin
  abbrev goal : Place → Bool
  goal p = eqb (get_or spots p.vertex 0) 2

  -- what holds of the moves that are tried, and of one more
  more_tried : (settled : ℕ → Type 0) (P : Place → ℕ → Type 0) {item number : ℕ} {here : Place} → GoodPlace t here → place_code t here ≡ item
      → ((p : Place) (m : ℕ) → GoodPlace t p → settled (place_code t p) → (place_code t p ≡ item → m < number) → P p m) → P here number
      → (p : Place) (m : ℕ) → GoodPlace t p → settled (place_code t p) → (place_code t p ≡ item → m < number + 1) → P p m
  more_tried settled P {item} {number} {here} on is before now p m good done tried = by (ℕ_discrete (place_code t p) item) (dec_lt m number)
    where
      by : Dec (place_code t p ≡ item) → Dec (m < number) → P p m
      by (no e) d = before p m good done (λ f. absurd (e f))
      by (yes e) (yes l) = before p m good done (λ f. l)
      by (yes e) (no l) =
          let one : number ≡ m = omega (arith, tried e) in
          let same : here ≡ p = (lawful_by view spots fine).apart on good (is ∙ sym e) in
          rw (← one, ← same) now

  -- a vertex of the tree is reached at no cost
  from_start : {p : Place} {v e : ℕ} → v < vertices t.grid → get_or spots v 0 ≡ 1 → p ≡ start_at v → e ≡ 0
      → From (system_by t view spots) (starts_by t view spots) p e
  from_start below byte start zero-cost = rw (start, zero-cost) (From.starts below (rw byte refl))

  -- and is no unjoined pin
  start_no_goal : {p : Place} (v : ℕ) → get_or spots v 0 ≡ 1 → p ≡ start_at v → goal p ≡ false
  unfolding start_at
  start_no_goal v byte start = rw start (tree_no_goal (get_or spots v 0) byte)

  -- what is asked of a move: it lowers no entry, enters no goal for less than the best cost, and its place is
  -- known where it enters one
  abbrev Closes : (key : ℕ → ℕ) → Place → ℕ → Type 0
  Closes key p m = (q : Place) (e c : ℕ) → key (place_code t p) ≡ suc e → Legal (system_by t view spots) p m c q → goal q ≡ false
      → (0 < key (place_code t q)) × (key (place_code t q) ≤ suc (e + c))

  abbrev Bounds : (key : ℕ → ℕ) → (best : ℕ) → Place → ℕ → Type 0
  Bounds key best p m = (q : Place) (e c : ℕ) → key (place_code t p) ≡ suc e → Legal (system_by t view spots) p m c q → goal q ≡ true → best ≤ e + c

  abbrev Shows : (near : List ℕ) → Place → ℕ → Type 0
  Shows near p m = (q : Place) (c : ℕ) → Legal (system_by t view spots) p m c q → goal q ≡ true → HasMove (get_or near p.vertex 0) m

  module _ {key : ℕ → ℕ} {settled : ℕ → Type 0} where
    -- before any place is settled
    pub spread_begun : {near : List ℕ} (limit item number : ℕ)
        → ((v : ℕ) → v < vertices t.grid → get_or spots v 0 ≡ 1 → key (place_code t (start_at v)) ≡ 1)
        → ((p : Place) → GoodPlace t p → 0 < key (place_code t p)
        → (key (place_code t p) ≡ 1) × ((v : ℕ) × (v < vertices t.grid) × (get_or spots v 0 ≡ 1) × (p ≡ start_at v)))
        → ((c : ℕ) → c < places t → settled c → ⊥) → Spread t view spots key settled near 1099511627775 limit item number
    unfolding start_at
    spread_begun limit item number starts only none =
        record {
          starts = starts;
          reached = λ {p} {e} good is.
              let (one, (v, below, byte, start)) = only p good (omega (arith, is)) in
              from_start below byte start (omega arith);
          no_goals = λ {p} good some.
              let (one, (v, below, byte, start)) = only p good some in
              start_no_goal v byte start;
          small = λ c h. by c h;
          closed = λ good done. absurd (none _ (code_below good) done);
          least = λ good done. absurd (none _ (code_below good) done);
          lit = λ good done. absurd (none _ (code_below good) done);
          found = λ h. absurd (omega arith);
          bound = omega arith;
        }
      where
        by : (c : ℕ) → c < places t → key c ≤ suc limit
        by c h = on (dec_lt 0 (key c))
          where
            on : Dec (0 < key c) → key c ≤ suc limit
            on (no z) = omega arith
            on (yes some) =
                let is = code_place fine h in
                let (one, (v, below, byte, start)) = only (at c) (place_good fine h) (rw is some) in
                omega (arith, rw is at one)

    -- an entered goal stays one where keys and settled places stay
    pub entered_stays : {key' : ℕ → ℕ} {settled' : ℕ → Type 0} {n : ℕ} → ((c : ℕ) → c < places t → settled c → key' c ≡ key c)
        → ((c : ℕ) → c < places t → settled c → settled' c) → Entered t view spots key settled n → Entered t view spots key' settled' n
    entered_stays same stays w =
        let below = code_below w.good in
        record {
          from = w.from;
          to = w.to;
          cost = w.cost;
          move = w.move;
          price = w.price;
          good = w.good;
          no_goal = w.no_goal;
          done = stays _ below w.done;
          is = same _ below w.done ∙ w.is;
          legal = w.legal;
          goal = w.goal;
          sum = w.sum;
        }

    module _ {near : List ℕ} {best limit item number : ℕ} (so_far : Spread t view spots key settled near best limit item number) where
      -- where all moves are tried, it does not matter of which place they were tried last
      pub spread_all : (next : ℕ) → 4 ≤ number → Spread t view spots key settled near best limit next 4
      spread_all next all =
          record {
            starts = so_far.starts;
            reached = so_far.reached;
            no_goals = so_far.no_goals;
            small = so_far.small;
            closed = λ good done tried is legal. so_far.closed good done (λ f. omega (arith, legal.known)) is legal;
            least = λ good done tried is legal. so_far.least good done (λ f. omega (arith, legal.known)) is legal;
            lit = λ good done tried legal. so_far.lit good done (λ f. omega (arith, legal.known)) legal;
            found = so_far.found;
            bound = so_far.bound;
          }

      -- a place is settled, and none of its moves is tried
      pub spread_take : {key' : ℕ → ℕ} {settled' : ℕ → Type 0} (more next : ℕ) → ((c : ℕ) → c < places t → key' c ≡ key c)
          → ((c : ℕ) → c < places t → settled' c → (c ≡ next) ⊎ settled c) → ((c : ℕ) → c < places t → settled c → settled' c) → limit ≤ more
          → 4 ≤ number → Spread t view spots key' settled' near best more next 0
      spread_take {key'} {settled'} more next same into stays wide all =
          record {
            starts = λ v h byte. same _ (code_below (start_good h)) ∙ so_far.starts v h byte;
            reached = λ good is. so_far.reached good (sym (same _ (code_below good)) ∙ is);
            no_goals = λ good some. so_far.no_goals good (rw (← same _ (code_below good)) some);
            small = λ c h. omega (arith, same c h, so_far.small c h);
            closed = λ {p} {q} good done tried is legal g.
                let was = so_far.closed good (before good done tried) (λ f. omega (arith, all, legal.known)) (sym (same _ (code_below good)) ∙ is) legal g in
                rw (same _ (code_below ((lawful_by view spots fine).keeps good legal))) was;
            least = λ good done tried is legal g.
                so_far.least good (before good done tried) (λ f. omega (arith, all, legal.known)) (sym (same _ (code_below good)) ∙ is) legal g;
            lit = λ good done tried legal g. so_far.lit good (before good done tried) (λ f. omega (arith, all, legal.known)) legal g;
            found = λ h. entered_stays (λ c b d. same c b) stays (so_far.found h);
            bound = so_far.bound;
          }
        where
          before : {p : Place} {m : ℕ} → GoodPlace t p → settled' (place_code t p) → (place_code t p ≡ next → m < 0) → settled (place_code t p)
          before {p} good done tried = by (into _ (code_below good) done)
            where
              by : (place_code t p ≡ next) ⊎ settled (place_code t p) → settled (place_code t p)
              by (inl e) = absurd (omega (arith, tried e))
              by (inr d) = d

    -- ---- one move of the place at hand

    module _ {near : List ℕ} {best limit item number : ℕ} (so_far : Spread t view spots key settled near best limit item number) {here : Place}
        (on : GoodPlace t here) (is_item : place_code t here ≡ item) where
      -- where all that holds of one more move
      pub spread_more : Closes key here number → Bounds key best here number → Shows near here number
          → Spread t view spots key settled near best limit item (number + 1)
      spread_more closes bounds shows =
          record {
            starts = so_far.starts;
            reached = so_far.reached;
            no_goals = so_far.no_goals;
            small = so_far.small;
            closed = λ {p} {q} {e} {m} {c} good done tried.
                more_tried settled (Closes key) on is_item (λ p m good done tried q e c. so_far.closed good done tried) closes p m good done tried q e c;
            least = λ {p} {q} {e} {m} {c} good done tried.
                more_tried settled (Bounds key best) on is_item (λ p m good done tried q e c. so_far.least good done tried) bounds p m good done tried q e c;
            lit = λ {p} {q} {m} {c} good done tried.
                more_tried settled (Shows near) on is_item (λ p m good done tried q c. so_far.lit good done tried) shows p m good done tried q c;
            found = so_far.found;
            bound = so_far.bound;
          }

      -- a move that is blocked
      pub spread_stopped : (system_by t view spots).step here number ≡ blocked → Spread t view spots key settled near best limit item (number + 1)
      spread_stopped stops =
          spread_more (λ q e c is legal. absurd (stuck legal)) (λ q e c is legal. absurd (stuck legal)) (λ q c legal. absurd (stuck legal))
        where
          stuck : {q : Place} {c : ℕ} → Legal (system_by t view spots) here number c q → ⊥
          stuck legal = not_blocked (sym stops ∙ legal.leads)
