-- A call's answer, asked again, is itself. Assumes that the words are accepted, and nothing else.
use Prim.Native.Nat.{ℕ}
use Rattle.rules.specs.Rows.{Ptr, Store}
use Rattle.rules.specs.Declarations.{Env}
use Rattle.rules.specs.Accepted.{Lent, Accepted}
use Rattle.rules.specs.Firings.{Tally, tally}
use Rattle.rules.specs.HeadRules.{Reduces}
use Rattle.rules.specs.Refusals.{Limits, Within}
use Rattle.substitution.specs.Stores.{scope_good}
use Rattle.again.specs.Again.{AnsweredAgain}
use Rattle.again.specs.OnCall.{accepted_formed, accepted_stands}
use Rattle.again.proofs.Again.{answers_itself}

module _ {w : Lent} {e : Env} {s : Store} (a : Accepted w e s) where
  -- whatever the rules answer to the call, asked again within the same budgets is its own answer
  pub call_again : {lim : Limits} {n : ℕ} {m : Tally} {t' : Ptr} → Reduces e n (tally 0 s) w.term m t' → Within lim m → AnsweredAgain e lim n s m t'
  call_again r h = answers_itself (accepted_formed a) (scope_good a.term) (accepted_stands a) r h
