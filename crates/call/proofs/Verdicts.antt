-- A verdict known by its variant. Assumes nothing.
use mathlib.Core.Path.{refl}
use Rattle.std.specs.Prelude.{Ok, Err}
use Rattle.rules.specs.Accepted.{Lent, Accepted, NotAccepted}
use Rattle.rules.specs.Call as call
use Rattle.rules.specs.Call.{Whnf, not_accepted}
use Rattle.rows.specs.Refusals.{number_of}
use Rattle.rows.specs.declared.refusals.Refused.{Refused}
use Rattle.tables.specs.Verdicts.{Accepts, accepted, refused, env_in, store_in}

module _ {w : Lent} where
  pub verdict_accepted : Accepts w (Ok tt) → Accepted w (env_in w) (store_in w)
  verdict_accepted (accepted a) = a

  is_refused : {r : Refused} → Accepts w (Err r) → NotAccepted w (number_of r.refusal) r.place
  is_refused (refused a) = a

  -- refusals 1 to 3 write nothing
  pub verdict_refused : {r : Refused} → Accepts w (Err r) →
      Whnf w (call.refused (number_of r.refusal) r.place) (record { mark = w.mark; scratch = w.scratch; context = w.context })
  verdict_refused k = not_accepted (is_refused k) (record { mark = refl; scratch = refl; context = refl })
