-- What the code answers where it may refuse, in the answers of functions that read.
--     passed_on     `?` passes a refusal on as it is
use mathlib.Core.Path.{◌≡◌}
use Rattle.std.specs.Prelude.{Result, IsErr, IsErrAnd}
use Rattle.std.proofs.lemmas.Result.{err_from_is_err_and}
use Rattle.job.specs.Reading.{refused}
use Rattle.job.specs.Refusals.{number_of, read_of}
use Rattle.job.specs.declared.refusal.Refused.{Refused}

module _ {A : Type 0} (result : Result A Refused) (r : Refused) where
  -- `?` passes a refusal on as it is
  pub passed_on : IsErr result × IsErrAnd result (λ e. e ≡ r) → read_of result ≡ refused (number_of r.refusal) r.place
  passed_on h = let told = err_from_is_err_and result h.1 in rw (told.1, told.2)
