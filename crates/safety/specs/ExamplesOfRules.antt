-- E1 to E11 of document 01 hold of the rules themselves: each row of the table is an `Answered` or a `Refused`. The evaluator's answers are computed,
-- the input is shown ready by the test of Checks.antt, and `eval_answered` and `eval_refused` carry the one over to the other.
use Rattle.std.specs.Prelude.{ℕ, ◌+◌, ◌-◌, ◌≡◌, refl, true, List, map, length}
use Rattle.std.proofs.Common.{ap, ◌∙◌, sym, subst}
use Rattle.std.proofs.Math.Option.{Option, some}
use Rattle.rules.specs.Rows.{Ptr, Store, grow}
use Rattle.rules.specs.Declarations.{Decl}
use Rattle.rules.specs.Refusals.{Limits, Refused, Answered}
use Rattle.rules.specs.Call.{Answer, term, refused}
use Rattle.course.specs.Eval.{Res, ok, no, lost, eval}
use Rattle.course.specs.Tables.{declared, Case, answer_of, seen}
use Rattle.course.specs.Examples.{decls, library, table}
use Rattle.safety.specs.Lists.{none_some, some_same}
use Rattle.safety.specs.Sane.{Ready}
use Rattle.safety.specs.Checks.{passed, what_passed, Each, none_left, and_then, each_of, ready_at}
use Rattle.safety.specs.Answers.{answered_eval, refused_eval, eval_answered, eval_refused}

-- A CASE

abbrev pub limits_for : Store → Case → Limits
limits_for s c = record { steps = c.steps; rows = length s + c.free }

-- what the rules say to a case over the declarations ds and the library s
pub data RulesSay (ds : List Decl) (s : Store) (c : Case) : Answer → Type 0 where
  answers : {t : Ptr} {k n : ℕ} {s' : Store} → Answered (declared ds c.context) (limits_for s c) c.nesting s c.asked t k s' →
      length s' - length s ≡ n → RulesSay ds s c (term t k n)
  refuses : {k : ℕ} → Refused (declared ds c.context) (limits_for s c) c.nesting s c.asked k → RulesSay ds s c (refused k 0)

abbrev pub CaseReady : List Decl → Store → Case → Type 0
CaseReady ds s c = Ready (declared ds c.context) (limits_for s c) s c.asked

-- the evaluator's result to a case
unfoldable pub result : List Decl → Store → Case → Res
result ds s c = eval (declared ds c.context) (limits_for s c) c.nesting s c.asked

result_says : {ds : List Decl} {s : Store} {c : Case} {a : Answer} → CaseReady ds s c → (o : Res) → result ds s c ≡ o → answer_of s o ≡ some a → RulesSay ds s c a
unfolding result answer_of
result_says {ds} {s} {c} r (ok m t) q z = subst (RulesSay ds s c) (some_same z) (answers (eval_answered r q) refl)
result_says {ds} {s} {c} r (no k) q z = subst (RulesSay ds s c) (some_same z) (refuses (eval_refused r q))
result_says r lost q z = absurd (none_some z)

seen_answer : (ds : List Decl) (s : Store) (c : Case) → (seen ds s c).answer ≡ answer_of s (result ds s c)
unfolding seen result
seen_answer ds s c = refl

pub case_holds : {ds : List Decl} {s : Store} {c : Case} {a : Answer} → CaseReady ds s c → (seen ds s c).answer ≡ some a → RulesSay ds s c a
case_holds {ds} {s} {c} r q = result_says r (result ds s c) refl (sym (seen_answer ds s c) ∙ q)

-- the other way: what the rules say is the evaluator's answer
pub rules_computed : {ds : List Decl} {s : Store} {c : Case} {a : Answer} → CaseReady ds s c → RulesSay ds s c a → answer_of s (result ds s c) ≡ some a
unfolding result answer_of
rules_computed {s = s} r (answers {t = t} {k = k} a q) = ap (answer_of s) (answered_eval r a) ∙ ap (λ (n : ℕ). some (term t k n)) q
rules_computed {s = s} r (refuses a) = ap (answer_of s) (refused_eval r a)

-- A TABLE

unfoldable pub answer_seen : List Decl → Store → Case → Option Answer
unfolding seen
answer_seen ds s c = (seen ds s c).answer

unfoldable pub answer_due : Case → Option Answer
answer_due c = some c.says

pub table_holds : {ds : List Decl} {s : Store} {n : ℕ} {cs : List Case} → Each (λ n c. CaseReady ds s c) n cs → map (answer_seen ds s) cs ≡ map answer_due cs →
    Each (λ n c. RulesSay ds s c c.says) n cs
unfolding answer_seen answer_due
table_holds none_left q = none_left
table_holds {ds} {s} (and_then {x = c} {xs = cs} r rs) q =
    let here : (seen ds s c).answer ≡ some c.says = cc in
    let there : map (answer_seen ds s) cs ≡ map answer_due cs = cc in
    and_then (case_holds r here) (table_holds rs there)

-- E1 TO E11

all_ready : (cs : List Case) → Option (Each (λ n c. CaseReady decls library c) 0 cs)
all_ready cs = each_of (λ n c. ready_at (declared decls c.context) (limits_for library c) library c.asked) 0 cs

ready_passed : passed (all_ready table) ≡ true
unfolding all_ready ready_at each_of decls library table grow
ready_passed = refl

answers_computed : map (answer_seen decls library) table ≡ map answer_due table
unfolding answer_seen answer_due decls library table
answers_computed = refl

pub table_ready : Each (λ n c. CaseReady decls library c) 0 table
table_ready = what_passed (all_ready table) ready_passed

pub E1_to_E11_of_the_rules : Each (λ n c. RulesSay decls library c c.says) 0 table
E1_to_E11_of_the_rules = table_holds table_ready answers_computed
