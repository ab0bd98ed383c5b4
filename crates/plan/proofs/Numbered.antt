-- A refusal of a plan has a number of the specification's table.
--     plan_numbered     of reading a plan
use Prim.Native.Nat.{ℕ, zero, suc, ◌+◌}
use mathlib.Core.List.{List, [], ◌∷◌}
use mathlib.Core.Bool.{Bool}
use Rattle.bits.specs.Bits.{bits_of}
use Rattle.job.specs.Job.{Net, Job}
use Rattle.job.specs.Reading.{Read}
use Rattle.job.proofs.Numbered.{Numbered, rule_numbered, then_numbered, bind_numbered, good_numbered}
use Rattle.rules.specs.Views.{View}
use Rattle.rules.specs.Segments.{Place}
use Rattle.rules.specs.Prices.{Tech}
use Rattle.rules.specs.Steps.{Stepped, illegal, legal}
use Rattle.rules.specs.Standings.{Standing}
use Rattle.rules.specs.Routings.{Totals}
use Rattle.plan.specs.Reading.{judged, read_moves, Progress, JoinRead, read_join, by_flag, unless_joined, read_net, read_nets, read_plan}

-- a move that is judged
judged_numbered : (at : ℕ) (last : Bool) (unjoined : List ℕ) (s : Stepped) → Numbered (judged at last unjoined s)
unfolding judged Numbered
judged_numbered at last unjoined illegal = tt
judged_numbered at last unjoined (legal made) = then_numbered _ _ (rule_numbered 17 at _ tt) (good_numbered made)

-- a record by its flag
flag_numbered : (flag : ℕ) (ended : Progress) (joined : Read JoinRead) (follows : JoinRead → Read Progress) → Numbered joined
    → ((read : JoinRead) → Numbered (follows read)) → Numbered (by_flag flag ended joined follows)
unfolding by_flag
flag_numbered zero ended joined follows h k = good_numbered ended
flag_numbered (suc one) ended joined follows h k = bind_numbered joined follows h k

-- records, while a pin is unjoined
unless_numbered : (unjoined : List ℕ) (done : Progress) (records : Read Progress) → Numbered records → Numbered (unless_joined unjoined done records)
unfolding unless_joined
unless_numbered [] done records h = good_numbered done
unless_numbered (p ∷ ps) done records h = h

module _ (bits : List ℕ) where
  -- moves
  moves_numbered : (t : Tech) (view : View) (unjoined : List ℕ) (n at : ℕ) (p : Place) → Numbered (read_moves bits t view unjoined n at p)
  unfolding read_moves
  moves_numbered t view unjoined zero at p = good_numbered _
  moves_numbered t view unjoined (suc n) at p =
      then_numbered _ _ (rule_numbered 15 at _ tt) (bind_numbered _ _ (judged_numbered at _ unjoined _) (λ made.
      bind_numbered _ _ (moves_numbered t view unjoined n (at + 2) made.next) (λ rest. good_numbered _)))

  -- a join after its flag
  join_numbered : (j : Job) (k : ℕ) (s : Standing) (at : ℕ) → Numbered (read_join bits j k s at)
  unfolding read_join
  join_numbered j k s at =
      then_numbered _ _ (rule_numbered 15 _ _ tt) (then_numbered _ _ (rule_numbered 16 _ _ tt)
      (then_numbered _ _ (rule_numbered 17 _ _ tt) (bind_numbered _ _ (moves_numbered _ _ _ _ _ _) (λ moved.
      then_numbered _ _ (rule_numbered 15 _ _ tt) (then_numbered _ _ (rule_numbered 18 _ _ tt) (good_numbered _))))))

  -- the records of a net
  net_numbered : (j : Job) (k n : ℕ) (s : Standing) (totals : Totals) (at : ℕ) → Numbered (read_net bits j k n s totals at)
  unfolding read_net
  net_numbered j k zero s totals at = good_numbered _
  net_numbered j k (suc n) s totals at =
      unless_numbered s.unjoined _ _ (then_numbered _ _ (rule_numbered 15 at _ tt)
      (flag_numbered _ _ _ _ (join_numbered j k s (at + 1)) (λ read. bind_numbered _ _ (net_numbered j k n _ _ read.next) (λ rest. good_numbered _))))

  -- of all nets
  nets_numbered : (j : Job) (k : ℕ) (nets : List Net) (metal : List (List ℕ)) (totals : Totals) (at : ℕ) → Numbered (read_nets bits j k nets metal totals at)
  unfolding read_nets
  nets_numbered j k [] metal totals at = good_numbered _
  nets_numbered j k (net ∷ nets) metal totals at =
      bind_numbered _ _ (net_numbered j k _ _ totals at) (λ this.
      bind_numbered _ _ (nets_numbered j (suc k) nets this.metal this.totals this.at) (λ rest. good_numbered _))

-- a plan
pub plan_numbered : (j : Job) (bytes : List ℕ) → Numbered (read_plan j bytes)
unfolding read_plan
plan_numbered j bytes =
    bind_numbered _ _ (nets_numbered (bits_of bytes) j 0 j.nets _ _ 0) (λ all. then_numbered _ _ (rule_numbered 15 _ _ tt) (good_numbered _))
