-- What demand 1 says: whatever words and numbers are lent, the answer is a refusal 1, 2 or 3 with its place, or else the evaluator gives
-- a term or one of 4 to 8, and the rules say the same. Shown in proofs/DemandOne.antt.
use Rattle.std.specs.Prelude.{ℕ, ◌≤◌, ◌≡◌}
use Rattle.rules.specs.Rows.{Ptr, Store}
use Rattle.rules.specs.Declarations.{Env}
use Rattle.rules.specs.Accepted.{Lent, Accepted, NotAccepted}
use Rattle.rules.specs.Firings.{tally}
use Rattle.rules.specs.Refusals.{Refused, Answered}
use Rattle.rules.specs.Call.{limits_of}
use Rattle.course.specs.Eval.{Res, ok, no, eval}

-- what the evaluator says of accepted words
abbrev pub evaluated : Lent → Env → Store → Res
evaluated w e s = eval e (limits_of w) w.nesting s w.term

-- every call has one of three outcomes
pub data Outcome (w : Lent) : Type 0 where
  not_accepted : (number place : ℕ) → (1 ≤ number) × (number ≤ 3) → NotAccepted w number place → Outcome w
  a_term : (e : Env) (s : Store) (t : Ptr) (steps : ℕ) (s' : Store) → Accepted w e s → evaluated w e s ≡ ok (tally steps s') t →
      Answered e (limits_of w) w.nesting s w.term t steps s' → Outcome w
  a_refusal : (e : Env) (s : Store) (number : ℕ) → Accepted w e s → evaluated w e s ≡ no number → (4 ≤ number) × (number ≤ 8) →
      Refused e (limits_of w) w.nesting s w.term number → Outcome w
