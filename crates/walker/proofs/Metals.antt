-- The metal of the nets to come: joining a net leaves it as it is.
--     Later                               lists of metal before and after net k is joined
--     later_none, later_more, later_on    nothing is laid, something is, one after the other
--     holds_at_lem                        of lists made for each net the one of the net after some nets
use Prim.Native.Nat.{ℕ, zero, suc, ◌<◌}
use mathlib.Core.Path.{◌≡◌, refl, ap, ◌∙◌}
use mathlib.Core.List.{List, [], ◌∷◌, ◌++◌, map}
use native.Mathlib.Omega.{arith}
use lib.ListN.{length}
use Rattle.job.specs.Job.{Net}
use Rattle.rules.specs.Views.{member}
use Rattle.rules.specs.Standings.{more}
use Rattle.views.proofs.Codes.{holds_at}
use Rattle.walker.proofs.Standing.{more-length}

-- there are as many lists, and those past the k-th hold the same vertices
pub record Later (k : ℕ) (before after : List (List ℕ)) : Type 0 where
  pub long : length after ≡ length before
  pub same : (i v : ℕ) → k < i → holds_at i after v ≡ holds_at i before v

-- nothing is laid
pub later_none : {k : ℕ} {before after : List (List ℕ)} → after ≡ before → Later k before after
later_none e = record { long = ap length e; same = λ i v h. ap (λ (m : List (List ℕ)). holds_at i m v) e }

-- more metal for the k-th net
pub later_more : (k : ℕ) (vs : List ℕ) (metal : List (List ℕ)) → Later k metal (more k vs metal)
unfolding more holds_at
later_more k vs metal = record { long = more-length k vs metal; same = more_past k metal }
  where
    more_past : (k : ℕ) (metal : List (List ℕ)) (i v : ℕ) → k < i → holds_at i (more k vs metal) v ≡ holds_at i metal v
    more_past k [] i v h = refl
    more_past zero (m ∷ ms) zero v h = absurd (omega (arith, h))
    more_past zero (m ∷ ms) (suc i) v h = refl
    more_past (suc k) (m ∷ ms) zero v h = absurd (omega (arith, h))
    more_past (suc k) (m ∷ ms) (suc i) v h = more_past k ms i v (omega (arith, h))

-- and then more
pub later_on : {k : ℕ} {a b c : List (List ℕ)} → Later k a b → Later k b c → Later k a c
later_on l m = record { long = m.long ∙ l.long; same = λ i v h. m.same i v h ∙ l.same i v h }

-- of lists made for each net the one of the net after some nets
pub holds_at_lem : (f : Net → List ℕ) (before : List Net) (net : Net) (after : List Net) (v : ℕ)
    → holds_at (length before) (map f (before ++ (net ∷ after))) v ≡ member v (f net)
unfolding holds_at
holds_at_lem f [] net after v = refl
holds_at_lem f (b ∷ bs) net after v = holds_at_lem f bs net after v
