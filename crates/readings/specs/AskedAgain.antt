-- An accepted call's answer, asked again, is its own answer: by the rules, where no rule fires at level 0, and by the evaluator, which is not lost
-- the second time either. crates/again has the same with "not lost" as a premise; crates/safety shows that premise.
-- Assumes that the words are accepted, and that the evaluator answered a term.
use Rattle.std.specs.Prelude.{ℕ, ◌≡◌}
use Rattle.std.proofs.Common.{arith}
use Rattle.rules.specs.Rows.{Ptr, Store}
use Rattle.rules.specs.Declarations.{Env}
use Rattle.rules.specs.Accepted.{Lent, Accepted}
use Rattle.rules.specs.Firings.{Tally}
use Rattle.rules.specs.Refusals.{Limits}
use Rattle.rules.specs.Call.{limits_of}
use Rattle.course.specs.ToTries.{to_runs}
use Rattle.course.specs.Eval.{ok, eval}
use Rattle.safety.specs.Sane.{Ready, accepted_ready}
use Rattle.safety.specs.Keeps.{Leaves, runs_keep}
use Rattle.safety.specs.Answers.{answered_eval, eval_answered}
use Rattle.again.specs.Again.{room_again, AnsweredAgain, answered_again}
use Rattle.again.proofs.OnCall.{call_again}

-- t, the answer of a call that went from s to m, is asked again with the same steps and nesting and as many free rows as the call had
pub record ItsOwnAnswer (e : Env) (lim : Limits) (n : ℕ) (s : Store) (m : Tally) (t : Ptr) : Type 0 where
  -- no rule fires at level 0, within those limits, and no more steps are taken and no more rows written than the call took and wrote
  pub again : AnsweredAgain e lim n s m t
  -- the evaluator gives the same pointer, with the counts of that
  pub evals : eval e (room_again lim s m.store) n m.store t ≡ ok again.to t

-- what a call leaves may be asked of
ready_again : {e : Env} {s s' : Store} {t : Ptr} (lim : Limits) → Leaves e s s' t → Ready e (room_again lim s s') s' t
unfolding room_again
ready_again lim k = record { sane = k.sane; term = k.term; room = omega arith }

pub again_on_accepted : {w : Lent} {e : Env} {s : Store} {m : Tally} {t : Ptr} → Accepted w e s → eval e (limits_of w) w.nesting s w.term ≡ ok m t →
    ItsOwnAnswer e (limits_of w) w.nesting s m t
again_on_accepted {w} {e} a q =
    let ready = accepted_ready a in
    let first = eval_answered ready q in
    let second = call_again a first.reduces first.within in
    record {
      again = second;
      evals = answered_eval (ready_again (limits_of w) (runs_keep (to_runs e first.reduces) ready.sane ready.term)) (answered_again second);
    }
