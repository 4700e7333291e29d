-- Demand 1, as one theorem: whatever words and numbers are lent, the answer is a refusal 1, 2 or 3 with its place, or else the evaluator gives
-- a term or one of 4 to 8, and the rules say the same. Assumes nothing.
use Rattle.std.specs.Prelude.{◌≡◌, refl}
use Rattle.rules.specs.Rows.{Store}
use Rattle.rules.specs.Declarations.{Env}
use Rattle.rules.specs.Accepted.{Lent, Accepted}
use Rattle.rules.specs.Call.{limits_of}
use Rattle.course.specs.Eval.{Res}
use Rattle.safety.specs.Answers.{Holds, term_holds, refusal_holds, accepted_holds, refusal_numbers}
use Rattle.decides.specs.Accepting.{Verdict, refused, accepted, acceptance_decides}
use Rattle.decides.specs.DemandOne.{evaluated, Outcome, not_accepted, a_term, a_refusal}

of_accepted : (w : Lent) (e : Env) (s : Store) → Accepted w e s → Outcome w
of_accepted w e s a = on (evaluated w e s) refl (accepted_holds a)
  where
    on : (o : Res) → evaluated w e s ≡ o → Holds e (limits_of w) w.nesting s w.term o → Outcome w
    on _ q (term_holds {t' = t} {k = k} {s' = s'} h) = a_term e s t k s' a q h
    on _ q (refusal_holds {n = n} h) = a_refusal e s n a q (refusal_numbers h) h

of_verdict : {w : Lent} → Verdict w → Outcome w
of_verdict (refused number place n h) = not_accepted number place n h
of_verdict {w} (accepted e s a) = of_accepted w e s a

pub demand_one : (w : Lent) → Outcome w
demand_one w = of_verdict (acceptance_decides w)
