-- The entries of a net, one by one: their bits, and what stands after a legal join.
--     all_both                       a claim about two lists is one about each
--     entries_append                 the bits of two lists of entries
--     record_placed, length_record   a join's bits and those behind them: where they stand, and how many
--     legal_apart, legal_fewer       after a legal join the tree and the unjoined pins are apart, and fewer
--                                    pins are unjoined
use Prim.Native.Nat.{ℕ, ◌+◌, ◌<◌}
use native.Mathlib.Omega.{arith}
use mathlib.Core.Path.{◌≡◌, refl, sym, subst}
use mathlib.Core.Logic.Iff
use mathlib.Core.Logic.{◌↔◌}
use mathlib.Core.List.{List, [], ◌∷◌, ◌++◌, append_assoc, flat_map}
use lib.ListN.{length, length-append}
use Rattle.bits.specs.Bits.{field_bits, group_bits}
use Rattle.bits.proofs.Laws.{length-field_bits}
use Rattle.job.specs.Lists.{All}
use Rattle.job.specs.Grid.{Grid}
use Rattle.job.specs.Job.{Job}
use Rattle.job.specs.Good.{GoodJob}
use Rattle.job.proofs.TwoWay.Places.{Placed, placed-append}
use Rattle.rules.specs.Prices.{tech_of}
use Rattle.rules.specs.Standings.{Standing, joined_by}
use Rattle.rules.specs.Apart.{Stands}
use Rattle.rules.specs.Joins.{join}
use Rattle.rules.specs.Routings.{Entry}
use Rattle.rules.proofs.Techs.{good_tech}
use Rattle.rules.proofs.Standing.{joined_apart}
use Rattle.plan.specs.Layout.{record_bits}
use Rattle.plan.specs.Entries.{entry_bits}
use Rattle.plan.specs.Legal.{LegalJoin}
use Rattle.plan.proofs.Unjoined.{without_shorter}
use Rattle.plan.proofs.JoinRead.{join_fields, join_bits, legal_walk}

-- a claim about two lists is one about each
pub all_both : {A : Type 0} (P : A → Type 0) (xs ys : List A) → All P (xs ++ ys) → All P xs × All P ys
unfolding All
all_both P [] ys h = (tt, h)
all_both P (x ∷ xs) ys h = let (left, right) = all_both P xs ys h.1 in ((h.0, left), right)

-- ---- bits

-- the bits of two lists of entries
pub entries_append : (g : Grid) (xs ys : List Entry) → entry_bits g (xs ++ ys) ≡ entry_bits g xs ++ entry_bits g ys
unfolding flat_map
entries_append g [] ys = refl
entries_append g (x ∷ xs) ys = rw (entries_append g xs ys, append_assoc)

-- a join is its flag and the bits after it
flag_join : (g : Grid) (start : ℕ) (moves : List ℕ) (cost : ℕ)
    → record_bits g (join start moves cost) ≡ field_bits 1 1 ++ join_bits g start moves cost
unfolding record_bits join_bits group_bits
flag_join g start moves cost = append_assoc (field_bits 1 1) (group_bits (join_fields g start moves)) _

-- it stands there where its flag does, and the rest behind it
pub record_placed : (B : List ℕ) (at : ℕ) (g : Grid) (start : ℕ) (moves : List ℕ) (cost : ℕ) (es : List ℕ)
    → Placed B at (record_bits g (join start moves cost) ++ es)
    ↔ ((Placed B at (field_bits 1 1) × Placed B (at + 1) (join_bits g start moves cost))
    × Placed B (at + 1 + length (join_bits g start moves cost)) es)
record_placed B at g start moves cost es =
    let bits = join_bits g start moves cost in
    let next : at + length (field_bits 1 1 ++ bits) ≡ at + 1 + length bits = omega (arith, length-append (field_bits 1 1) bits, length-field_bits 1 1) in
    simp (flag_join, placed-append, length-field_bits, next) Iff.rfl

-- the bits of a join and what follows it
pub length_record : (g : Grid) (start : ℕ) (moves : List ℕ) (cost : ℕ) (es : List ℕ)
    → length (record_bits g (join start moves cost) ++ es) ≡ 1 + length (join_bits g start moves cost) + length es
length_record g start moves cost es = simp (flag_join, length-append, length-field_bits) (omega arith)

-- ---- after a legal join

module _ {j : Job} (good-j : GoodJob j) (k : ℕ) (s : Standing) (apart : Stands (tech_of j) s) where
  -- after a legal join the tree and the unjoined pins are apart
  pub legal_apart : {start cost : ℕ} {moves : List ℕ} {next : Standing} → LegalJoin j k s start moves cost next → Stands (tech_of j) next
  legal_apart l = subst (Stands (tech_of j)) (sym l.stands) (joined_apart k s (good_tech good-j) apart l.route l.walked)

  -- and fewer pins are unjoined
  pub legal_fewer : {start cost : ℕ} {moves : List ℕ} {next : Standing} → LegalJoin j k s start moves cost next
      → length next.unjoined < length s.unjoined
  unfolding joined_by
  legal_fewer l = rw l.stands (without_shorter l.last.vertex s.unjoined (legal_walk good-j k s apart l).0)
