-- A whole plan.
--     end_refused, end_tail, end_good        the tail after the last net
--     end_both                               that, or the refusal of a net
--     plan_coded                             the codes of a good plan are those of its metal
--     plan_answer, plan_map, plan_counted    the answer, the map and the counts of a plan
use Prim.Native.Nat.{ℕ, ◌-◌}
use mathlib.Core.Path.{◌≡◌, refl, sym, ap, subst, ◌∙◌}
use mathlib.Core.List.{List}
use mathlib.Core.Bool.{Bool, true, false, ◌&&◌}
use native.Mathlib.Omega.{arith}
use lib.ListN.{length, drop}
use lib.Dec.{ltb, eqb}
use Rattle.bits.specs.Bits.{bits_of, number}
use Rattle.job.specs.Grid.{Grid, vertices}
use Rattle.job.specs.Job.{Job}
use Rattle.job.specs.Reading.{Read, refused, good, ◌>>=◌, ◌>>◌, rule, read_job}
use Rattle.job.specs.Structs.{grid_of}
use Rattle.job.specs.declared.refusal.Refusal.TheVariants.{PlanCut}
use Rattle.job.specs.declared.refusal.Refused.{Refused}
use Rattle.job.proofs.Binds.{steps}
use Rattle.rules.specs.Standings.{metal_at_first}
use Rattle.rules.specs.Routings.{no_totals, Routed}
use Rattle.rules.specs.declared.price.Tech.{Tech as TechStruct}
use Rattle.rules.specs.declared.totals.Totals.{Totals as TotalsStruct}
use Rattle.plan.specs.Reading.{Progress, read_nets, read_plan}
use Rattle.metal.specs.Codes.{Codes, Beyond}
use Rattle.job.specs.Slices.{zeroed}
use Rattle.metal.proofs.Slices.{beyond_trans, zeroed_kept}
use Rattle.walker.specs.Structs.{PlanHeld}
use Rattle.walker.proofs.Wholes.{laid_kept, read_grid, finished_map_lem}
use Rattle.replay.specs.Structs.{IsNets, CountedNets, IsReplayed, CountedPlan, plan_from, IsEnd, IsEnded, both_ended, finished_map}
use Rattle.plan.specs.Leaving.{replayed_map}
use Rattle.replay.specs.declared.net.Ended.{Ended}
use Rattle.replay.proofs.Tails.{TailTest}
use Rattle.std.proofs.Common.{Result, Ok, Err}

-- ---- the tail

-- nets that were refused
pub end_refused : (bits : List ℕ) {read : Result Ended Refused} {e : Refused} → read ≡ Err e → IsEnd bits read (Err e)
unfolding IsNets IsReplayed plan_from ◌>>=◌
end_refused bits told g x codes is = let e : x ≡ _ = rw told at is in rw e refl

-- what was read of all nets, with a tail that is long or not zero
tail_bad : (bytes : List ℕ) (all : Progress) → TailTest bytes all.at ≡ false → plan_from (bits_of bytes) (good all) ≡ refused 15 all.at
unfolding plan_from ◌>>=◌ ◌>>◌ rule
tail_bad bytes all bad = rw bad refl

-- with a tail of zeros
tail_zero : (bytes : List ℕ) (all : Progress) → TailTest bytes all.at ≡ true
    → plan_from (bits_of bytes) (good all) ≡ good (record { entries = all.entries; metal = all.metal; totals = all.totals })
unfolding plan_from ◌>>=◌ ◌>>◌ rule
tail_zero bytes all zeros = rw zeros refl

module _ (bytes : List ℕ) {read : Result Ended Refused} {ended : Ended} (told : read ≡ Ok ended) where
  -- a tail that is long or not zero
  pub end_tail : TailTest bytes ended.next ≡ false → IsEnd (bits_of bytes) read (Err (record { refusal = PlanCut; place = ended.next }))
  unfolding IsNets IsReplayed
  end_tail bad g x codes is =
      let (all, e, total, next, coded) = rw told at is in
      ap (plan_from (bits_of bytes)) e ∙ tail_bad bytes all (ap (TailTest bytes) (sym next) ∙ bad) ∙ ap (refused 15) (sym next)

  -- a tail of zeros
  pub end_good : TailTest bytes ended.next ≡ true → IsEnd (bits_of bytes) read (Ok ended.totals)
  unfolding IsNets IsReplayed
  end_good zeros g x codes is =
      let (all, e, total, next, coded) = rw told at is in (
        record { entries = all.entries; metal = all.metal; totals = all.totals },
        ap (plan_from (bits_of bytes)) e ∙ tail_zero bytes all (ap (TailTest bytes) (sym next) ∙ zeros),
        total,
      )

-- both together
pub end_both : (bits : List ℕ) (read : Result Ended Refused) (r : Result (Result TotalsStruct Refused) Refused) → IsEnded bits read r
    → IsEnd bits read (both_ended r)
unfolding IsEnded
end_both bits (Err e) r is = rw is (end_refused bits refl)
end_both bits (Ok ended) (Err e) is = absurd is
end_both bits (Ok ended) (Ok r) is = is

-- what is read of a plan has the metal of its nets
plan_metal : (bits : List ℕ) (all : Progress) (r : Routed) → plan_from bits (good all) ≡ good r → all.metal ≡ r.metal
unfolding plan_from
plan_metal bits all r = simp steps (λ (other, same, (tail, made)). (λ i. (same i).metal) ∙ (λ i. (made i).metal))

-- nets that were refused are no good plan
plan_none : (bits : List ℕ) (n p : ℕ) (r : Routed) → plan_from bits (refused n p) ≡ good r → ⊥
unfolding plan_from ◌>>=◌
plan_none bits n p r e = let z : ◌≡◌ {A = ℕ} 0 1 = cc in omega arith

-- the codes of a good plan are those of its metal
plan_coded : (g : Grid) (bits : List ℕ) (read : Result Ended Refused) (x : Read Progress) (codes : List ℕ) (r : Routed) → IsNets g read x codes
    → plan_from bits x ≡ good r → Codes g r.metal codes
unfolding IsNets
plan_coded g bits (Err refusal) x codes r is e = absurd (plan_none bits _ _ r (sym (ap (plan_from bits) is) ∙ e))
plan_coded g bits (Ok ended) x codes r (all, e, total, next, coded) h =
    subst (λ (metal : List (List ℕ)). Codes g metal codes) (plan_metal bits all r (sym (ap (plan_from bits) e) ∙ h)) coded

-- the counts of all nets are those of the plan
plan_sums : (j : Job) (bits : List ℕ) (x : Read Progress) (before after : List ℕ) → CountedNets j x before after → CountedPlan j (plan_from bits x) before after
unfolding CountedNets CountedPlan plan_from ◌>>=◌ ◌>>◌ rule
plan_sums j bits (refused n p) before after h = tt
plan_sums j bits (good all) before after h = by (ltb (length bits - all.at) 8 && eqb (number (drop all.at bits)) 0)
  where
    by : (b : Bool) → CountedPlan j (◌>>◌ (rule 15 all.at b) (good (record { entries = all.entries; metal = all.metal; totals = all.totals }))) before after
    by true = h
    by false = tt

-- and so for a plan that is read
pub plan_counted : (j : Job) (plan before after : List ℕ) → CountedNets j (read_nets (bits_of plan) j 0 j.nets (metal_at_first j) no_totals 0) before after
    → CountedPlan j (read_plan j plan) before after
unfolding read_plan plan_from
plan_counted j plan before after h = plan_sums j (bits_of plan) _ before after h

-- ---- from the job that was read to the map at the end

module _ (bytes : List ℕ) (tech : TechStruct) (occupants : List ℕ) (found : List ℕ) (count start : ℕ) (held : PlanHeld bytes tech occupants found count start)
    {bare laid : List ℕ} (zeros : bare ≡ zeroed (vertices (grid_of tech.grid)) found) (kept : Beyond (vertices (grid_of tech.grid)) laid bare)
    (plan : List ℕ) (read : Result Ended Refused) (replayed : Result TotalsStruct Refused) {after map : List ℕ}
    (is : (j : Job) → read_job bytes ≡ good j → IsNets (grid_of tech.grid) read (read_nets (bits_of plan) j 0 j.nets (metal_at_first j) no_totals 0) after)
    (still : Beyond (vertices (grid_of tech.grid)) after laid) (ended : IsEnd (bits_of plan) read replayed)
    (finished : map ≡ finished_map occupants (vertices (grid_of tech.grid)) replayed after) (j : Job) (jobIs : read_job bytes ≡ good j) where
  -- the answer is the plan's
  pub plan_answer : IsReplayed replayed (read_plan j plan)
  unfolding read_plan plan_from
  plan_answer = ended (grid_of tech.grid) _ after (is j jobIs)

  -- and so is the map
  pub plan_map : map ≡ replayed_map j (read_plan j plan) found
  unfolding read_plan plan_from IsReplayed finished_map replayed_map
  plan_map = finished ∙ by replayed plan_answer
    where
      past : Beyond (vertices (grid_of tech.grid)) after found
      past = beyond_trans still (laid_kept bytes tech occupants found count start held zeros kept)

      g : grid_of tech.grid ≡ j.grid
      g = read_grid bytes tech occupants found count start held j jobIs

      by : (r : Result TotalsStruct Refused) → IsReplayed r (read_plan j plan) → finished_map occupants (vertices (grid_of tech.grid)) r after ≡ replayed_map j (read_plan j plan) found
      by (Err refusal) e =
          zeroed_kept past ∙ ap (λ (h : Grid). zeroed (vertices h) found) g ∙ sym (ap (λ (x : Read Routed). replayed_map j x found) e)
      by (Ok totals) (r, e, total) =
          finished_map_lem bytes tech occupants found count start held r.metal after (plan_coded (grid_of tech.grid) (bits_of plan) read _ after r (is j jobIs) e) past j jobIs
          ∙ sym (ap (λ (x : Read Routed). replayed_map j x found) e)

-- the map finished by a count of the vertices
pub count_finished : (occupants : List ℕ) (r : Result TotalsStruct Refused) (after : List ℕ) {n v : ℕ} {map : List ℕ} → n ≡ v → map ≡ finished_map occupants n r after
    → map ≡ finished_map occupants v r after
count_finished occupants r after {map = map} e h = subst (λ (k : ℕ). map ≡ finished_map occupants k r after) e h
