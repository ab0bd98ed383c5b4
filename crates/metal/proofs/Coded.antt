-- Each vertex's code is that of the metal on it.
--     codes_laid      it stays so as a net is laid on vertices that become its metal
--     codes_alike     it goes by which vertices become metal, not by their list
--     codes_bare      a bare map is so where no net has metal
use Prim.Native.Nat.{ℕ, suc, ◌≤◌, ◌<◌}
use mathlib.Core.Path.{◌≡◌, refl, sym, ap, ◌∙◌}
use mathlib.Core.Logic.{inl}
use mathlib.Core.List.{List, []}
use mathlib.Core.Bool.{Bool, true, false, cond}
use native.Mathlib.Omega.{arith}
use lib.ListN.{length, get_or}
use Rattle.job.specs.Lists.{All}
use Rattle.job.specs.Grid.{Grid, vertices}
use Rattle.rules.specs.Views.{member}
use Rattle.rules.specs.Standings.{more}
use Rattle.rules.specs.Maps.{net_code}
use Rattle.metal.specs.Codes.{laid_code, lay_all, Codes, Bare}
use Rattle.metal.proofs.Laid.{laid_at}
use Rattle.metal.proofs.Metal.{code_alike, code_apart, code_laid, code_empty}

module _ (g : Grid) (metal : List (List ℕ)) where
  -- a net is laid on vertices that become its metal
  pub codes_laid : (k : ℕ) (vs codes : List ℕ) → k < length metal → vertices g ≤ length codes → All (λ v. v < vertices g) vs
      → Codes g metal codes → Codes g (more k vs metal) (lay_all (suc k) vs codes)
  unfolding Codes
  codes_laid k vs codes known on below held w h = laid_at (vertices g) (suc k) vs codes w below on ∙ by (member w vs) refl
    where
      by : (b : Bool) → member w vs ≡ b → cond b (laid_code (suc k) (get_or codes w 0)) (get_or codes w 0) ≡ net_code 0 1 (more k vs metal) w
      by true e = ap (laid_code (suc k)) (held w h) ∙ sym (code_laid w 0 0 k (suc k) vs metal e known (inl (omega arith)) (omega arith))
      by false e = held w h ∙ sym (code_apart w 0 1 k vs metal e)

  -- it goes by which vertices become metal of a net, not by their list
  pub codes_alike : (k : ℕ) (xs ys codes : List ℕ) → ((v : ℕ) → member v xs ≡ member v ys)
      → Codes g (more k xs metal) codes → Codes g (more k ys metal) codes
  unfolding Codes
  codes_alike k xs ys codes same held v h = held v h ∙ code_alike v 0 1 k xs ys metal (same v)

  -- a bare map, where no net has metal
  pub codes_bare : (codes : List ℕ) → All (λ m. m ≡ []) metal → Bare (vertices g) codes → Codes g metal codes
  unfolding Codes Bare
  codes_bare codes none bare v h = bare v h ∙ sym (code_empty v 0 1 metal none)
