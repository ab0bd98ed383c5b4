-- The turns of reading the moves of a join.
--     Walking            what has been read and counted, and that the rest gives the whole
--     Answers            what the code answers and leaves
--     move_fits          what is known of a move
--     walking_begun      before the first move
--     walking_on         after a move
--     walking_refused    a move that is refused
--     walking_done       after the last
use Prim.Native.Nat.{ℕ, zero, suc, ◌+◌, ◌-◌, ◌*◌, ◌^◌, ◌≤◌, ◌<◌}
use mathlib.Core.Path.{◌≡◌, refl, sym, ap, ◌∙◌}
use mathlib.Core.List.{List, [], ◌∷◌, ◌++◌}
use mathlib.Core.Bool.{Bool}
use native.Mathlib.Omega.{arith}
use lib.ListN.{length, set}
use lib.Dec.{eqb}
use Rattle.bits.specs.Bits.{field}
use Rattle.job.specs.Grid.{vertices}
use Rattle.job.specs.Structs.{grid_of}
use Rattle.job.specs.Reading.{Read, refused, good}
use Rattle.job.specs.Refusals.{number_of}
use Rattle.job.specs.declared.refusal.Refused.{Refused}
use Rattle.rules.specs.Tracks.{layer_of}
use Rattle.rules.specs.Views.{View}
use Rattle.rules.specs.Steps.{Made, legal, step}
use Rattle.rules.specs.Structs.{TechFits, tech_by, place_of, made_by, WholeMade}
use Rattle.rules.specs.declared.price.Tech.{Tech as TechStruct}
use Rattle.rules.specs.declared.step.Made.{Made as MadeStruct}
use Rattle.metal.specs.Codes.{lay_all, extended}
use Rattle.metal.proofs.Laid.{laid_length}
use Rattle.counts.specs.Counts.{counted, move_counts, walk_counts}
use Rattle.counts.specs.Structs.{CountsFit}
use Rattle.counts.proofs.Counting.{fit_under}
use Rattle.counts.proofs.Turns.{end_of, end_then, counted_then, move_fit}
use Rattle.walker.specs.Entering.{Arrays, enter_by, Gone, gone_at, gone_on}
use Rattle.walker.specs.Structs.{walk_from, walk_on}
use Rattle.walker.specs.declared.Walk.{Walk}
use Rattle.walker.proofs.Landing.{MoveFits, made_fits, made_entered, MovesMade, made_none, made_one, made_all}
use Rattle.replay.specs.Following.{Came, came, stopped, and_read, arrays_of, judged_move, moves_from}
use Rattle.replay.specs.Structs.{judged_of, WholeJudged, IsJudged, IsMoves, MovesFit, CountedMoves}
use Rattle.std.proofs.Common.{Result, Ok, Err}
use Rattle.replay.proofs.Parts.{judged-step}

module _ (tech : TechStruct) (view : View) (B : List ℕ) (net count from start : ℕ) (first : Arrays) (before : List ℕ) where
  -- what reading the moves comes to
  abbrev pub Whole_moves : Came Gone
  Whole_moves = moves_from B (tech_by tech) view net count from (gone_at start) first

  -- so many moves are left: the rest from where the walk has led gives the whole, and those made are counted
  pub record Walking (spots codes counts : List ℕ) (walk : Walk) (layer at left : ℕ) : Type 0 where
    pub gone : Gone
    pub made : MovesMade tech (count - left) walk gone
    pub same : Whole_moves ≡ moves_from B (tech_by tech) view net left at gone (record { spots = spots; codes = codes })
    pub next : at + 2 * left ≡ from + 2 * count
    pub few : left ≤ count
    pub size : length codes ≡ length first.codes
    pub tallied : counts ≡ counted (walk_counts (grid_of tech.grid) view start gone.made) before
    pub ends : end_of start gone.made ≡ walk.place.vertex
    pub level : layer ≡ layer_of (grid_of tech.grid) walk.place.vertex
    pub small : CountsFit (2 ^ 22 * at) counts

  -- what the code answers and leaves
  abbrev pub Answers : Result Walk Refused → (spots codes counts : List ℕ) → Type 0
  Answers r spots codes counts =
      IsMoves r Whole_moves
      × (MovesFit r × ((spots ≡ (arrays_of Whole_moves).spots)
      × ((codes ≡ (arrays_of Whole_moves).codes) × CountedMoves (grid_of tech.grid) view start Whole_moves (from + 2 * count) before counts)))

  -- before the first move
  pub walking_begun : {walk : Walk} {layer : ℕ} → walk ≡ walk_from start → layer ≡ layer_of (grid_of tech.grid) start → start < vertices (grid_of tech.grid)
      → CountsFit (2 ^ 22 * from) before → Walking first.spots first.codes before walk layer from count
  unfolding gone_at walk_from counted walk_counts end_of
  walking_begun begun level on small =
      let none : count - count ≡ 0 = omega arith in
      record {
        gone = gone_at start;
        made = rw (begun, none) (made_none tech start on);
        same = refl;
        next = refl;
        few = omega arith;
        size = refl;
        tallied = refl;
        ends = rw begun refl;
        level = rw begun level;
        small = small;
      }

  -- with a move left
  module _ {spots codes counts : List ℕ} {walk : Walk} {layer at left : ℕ} (so_far : Walking spots codes counts walk layer at left) (some : 0 < left) where
    -- the move is judged as the definition's
    abbrev pub Judges : Result MadeStruct Refused → Bool → Type 0
    Judges r last =
        IsJudged (grid_of tech.grid) view (place_of walk.place) r (judged_move B (tech_by tech) view spots last at (place_of walk.place))

    -- the whole is this move, and the rest
    one_more : Whole_moves ≡ and_read (record { spots = spots; codes = codes }) (judged_move B (tech_by tech) view spots (eqb (left - 1) 0) at (place_of walk.place))
        (λ made. moves_from B (tech_by tech) view net (left - 1) (at + 2) (gone_on so_far.gone made) (enter_by net made (record { spots = spots; codes = codes })))
    unfolding moves_from
    one_more = so_far.same ∙ by left some
      where
        by : (n : ℕ) → 0 < n → moves_from B (tech_by tech) view net n at so_far.gone (record { spots = spots; codes = codes })
            ≡ and_read (record { spots = spots; codes = codes }) (judged_move B (tech_by tech) view spots (eqb (n - 1) 0) at (place_of walk.place))
            (λ made. moves_from B (tech_by tech) view net (n - 1) (at + 2) (gone_on so_far.gone made) (enter_by net made (record { spots = spots; codes = codes })))
        by zero h = absurd (omega (arith, h))
        by (suc n) h =
            let less : suc n - 1 ≡ n = omega arith in
            rw (less, so_far.made.is.place) refl

    -- the rest, once the move is read
    abbrev Rest : Read Made → Came Gone
    Rest x =
        and_read (record { spots = spots; codes = codes }) x
        (λ made. moves_from B (tech_by tech) view net (left - 1) (at + 2) (gone_on so_far.gone made) (enter_by net made (record { spots = spots; codes = codes })))

    -- a move that is refused
    pub walking_refused : {r : Result MadeStruct Refused} {last : Bool} {e : Refused} → Judges r last → last ≡ eqb (left - 1) 0 → r ≡ Err e
        → Answers (Err e) spots codes counts
    unfolding judged_of IsMoves MovesFit CountedMoves arrays_of and_read
    walking_refused {e = e} judged is_last told =
        let read : judged_move B (tech_by tech) view spots (eqb (left - 1) 0) at (place_of walk.place) ≡ refused (number_of e.refusal) e.place =
        sym (rw (told, is_last) at judged.same) in
        let whole : Whole_moves ≡ stopped (number_of e.refusal) e.place (record { spots = spots; codes = codes }) = one_more ∙ ap Rest read in
        rw whole ((refl, refl), (tt, (refl, (refl, tt))))

    module _ (last : Bool) {r : Result MadeStruct Refused} (m : MadeStruct) (judged : Judges r last) (told : r ≡ Ok m) where
      -- the definition's move
      abbrev made : Made
      made = made_by (grid_of tech.grid) view (place_of walk.place) m

      -- it is judged good
      is_good : judged_move B (tech_by tech) view spots last at (place_of walk.place) ≡ good made
      unfolding judged_of
      is_good = sym (rw told at judged.same)

      -- it is a legal step
      is_step : step (tech_by tech) view (place_of walk.place) (field B at 2) ≡ legal made
      is_step = judged-step B (tech_by tech) view spots last at (place_of walk.place) is_good

      -- its extension is whole
      is_whole : WholeMade (grid_of tech.grid) view (place_of walk.place) m
      unfolding WholeJudged
      is_whole = rw told at judged.whole

      -- it leads to a good place, and its numbers are small
      pub move_fits : TechFits tech → MoveFits tech m
      move_fits fits = made_fits tech view walk.place (field B at 2) m is_step is_whole fits so_far.made.place

      -- after the move
      pub walking_on : TechFits tech → last ≡ eqb (left - 1) 0 → {more after : List ℕ} {onward : Walk} → more ≡ set spots m.next.vertex 1
          → after ≡ lay_all net (extended (grid_of tech.grid) (place_of walk.place) m.extension ++ (m.next.vertex ∷ [])) codes
          → onward ≡ walk_on walk m → {tally : List ℕ} {entered : ℕ} → tally ≡ counted (move_counts (grid_of tech.grid) view walk.place.vertex made) counts
          → entered ≡ layer_of (grid_of tech.grid) m.next.vertex → Walking more after tally onward entered (at + 2) (left - 1)
      unfolding and_read gone_on walk_on made_by
      walking_on fits is_last {more} {after} {onward} put laid walked {tally} {entered} counts-more into =
          let arrays = made_entered tech view walk.place (field B at 2) m is_step is_whole net spots codes put laid in
          let one : count - (left - 1) ≡ suc (count - left) = omega (arith, so_far.few, some) in
          let new = move_fits fits in
          record {
            gone = gone_on so_far.gone made;
            made = rw (walked, one) (made_one tech view m so_far.made new);
            same =
                one_more ∙ ap Rest (rw is_last at is_good) ∙ ap (moves_from B (tech_by tech) view net (left - 1) (at + 2) (gone_on so_far.gone made)) arrays;
            next = omega (arith, so_far.next, some);
            few = omega (arith, so_far.few);
            size = ap length laid ∙ laid_length net _ codes ∙ so_far.size;
            tallied = counted_then (grid_of tech.grid) view start so_far.gone.made made before so_far.tallied (rw so_far.ends counts-more);
            ends = end_then start so_far.gone.made made ∙ sym (ap (λ (w : Walk). w.place.vertex) walked);
            level = into ∙ sym (ap (λ (w : Walk). layer_of (grid_of tech.grid) w.place.vertex) walked);
            small = rw counts-more (fit_under _ (move_fit (grid_of tech.grid) view walk.place.vertex made counts
                (omega (arith, new.added)) (omega (arith, new.penalties)) so_far.small) (omega arith));
          }

  -- after the last move
  pub walking_done : {spots codes counts : List ℕ} {walk : Walk} {layer at left : ℕ} → Walking spots codes counts walk layer at left → left ≤ 0 → count < 2 ^ 20
      → Answers (Ok walk) spots codes counts
  unfolding moves_from IsMoves MovesFit CountedMoves arrays_of
  walking_done {spots} {codes} {walk = walk} {at = at} {left = left} so_far none few =
      let no_move : left ≡ 0 = omega arith in
      let whole : Whole_moves ≡ came so_far.gone (record { spots = spots; codes = codes }) = so_far.same ∙ rw no_move refl in
      let end : 2 ^ 22 * at ≤ 2 ^ 22 * (from + 2 * count) = omega (arith, so_far.next, none) in
      rw whole (so_far.made.is, (made_all so_far.made (omega (arith, few)), (refl, (refl, (so_far.tallied, fit_under _ so_far.small end)))))
