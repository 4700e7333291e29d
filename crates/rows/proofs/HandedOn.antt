-- What a `?` returns: the refusal that came, whatever the type of the answer. Assumes nothing.
use mathlib.Core.Path.{◌≡◌, ap, ◌∙◌}
use Rattle.std.specs.Prelude.{Result, Err}
use Rattle.std.specs.Result.{IsErrAnd}
use Rattle.std.proofs.lemmas.Result.{err_from_is_err_and}
use Rattle.rows.specs.declared.refusals.Refusal.{Refusal}

pub handed_on : {T : Type 0} {r : Result T Refusal} {k : Refusal} → IsErrAnd r (λ j. j ≡ k) → r ≡ Err k
handed_on {r} e = let p = err_from_is_err_and r e in p.1 ∙ ap Err p.2
