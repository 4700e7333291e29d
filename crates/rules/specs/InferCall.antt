-- The call `infer` as a whole: what it answers, and what it leaves in the words that it was lent.
use Rattle.std.specs.Prelude.{ℕ, ◌*◌, ◌-◌, ◌/◌, ◌≡◌, List, ◌++◌, length, take, replicate}
use Rattle.rules.specs.Rows.{Ptr, Store}
use Rattle.rules.specs.Declarations.{Env}
use Rattle.rules.specs.Accepted.{Lent, Accepted, NotAccepted}
use Rattle.rules.specs.Call.{Answer, term, refused, Left, limits_of, Untouched, Zeroed, Grown}
use Rattle.rules.specs.InferRefusals.{InferRefused, InferAnswered}

-- "Spare records follow the depth."
abbrev pub spare_records : Lent → ℕ
spare_records w = length w.context / 5 - w.depth

-- "After inference, except 1 to 3, spare records are zero, the others as lent"
abbrev pub records_after : Lent → List ℕ
records_after w = take (5 * w.depth) w.context ++ replicate (length w.context - 5 * w.depth) 0

-- beside its records inference leaves what reduction leaves
abbrev pub with_records : Lent → Lent
with_records w = record {
  library = w.library;
  declarations = w.declarations;
  rules = w.rules;
  context = records_after w;
  depth = w.depth;
  scratch = w.scratch;
  mark = w.mark;
  term = w.term;
  steps = w.steps;
  nesting = w.nesting;
}

pub data Infer (w : Lent) : Answer → Left → Type 0 where
  not_accepted : {number place : ℕ} {l : Left} → NotAccepted w number place → Untouched w l → Infer w (refused number place) l
  refuses : {e : Env} {s : Store} {number : ℕ} {l : Left} → Accepted w e s →
      InferRefused e (limits_of w) w.nesting (spare_records w) s w.term number → Zeroed (with_records w) l → Infer w (refused number 0) l
  answers : {e : Env} {s s' : Store} {t : Ptr} {steps rows : ℕ} {l : Left} → Accepted w e s →
      InferAnswered e (limits_of w) w.nesting (spare_records w) s w.term t steps s' → length s' - length s ≡ rows → Grown (with_records w) s s' l →
      Infer w (term t steps rows) l
