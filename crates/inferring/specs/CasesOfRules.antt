-- The tables of Cases.antt hold of the rules themselves: each line is an `InferAnswered` or an `InferRefused`. The evaluator's answers are computed, the
-- input is shown ready by a test that keeps what it found, and `infer_answered` and `infer_refused` carry the one over to the other.
use Rattle.std.specs.Prelude.{ℕ, suc, ◌+◌, ◌-◌, ◌<◌, ◌≡◌, refl, true, List, map, length}
use Rattle.std.proofs.Common.{arith, sym, ap, ◌∙◌, subst}
use Rattle.std.proofs.Math.Option.{Option, some}
use Rattle.rules.specs.Rows.{Ptr, Store, grow}
use Rattle.rules.specs.RowCheck.{InScope}
use Rattle.rules.specs.Declarations.{Form, plain, constructor, recursor, structure, Decl, Env, decl_at}
use Rattle.rules.specs.HeadTests.{given}
use Rattle.rules.specs.Refusals.{Limits}
use Rattle.rules.specs.Call.{Answer, term, refused}
use Rattle.rules.specs.InferRefusals.{InferRefused, InferAnswered}
use Rattle.course.specs.Eval.{Res, ok, no, lost}
use Rattle.course.specs.Tables.{declared, answer_of}
use Rattle.safety.specs.Lists.{nth_there, none_some, some_same}
use Rattle.safety.specs.Sane.{decl_count, Ready}
use Rattle.safety.specs.Checks.{passed, what_passed, at_most, Each, none_left, and_then, each_at, each_of, closed_at, in_scope_at, ready_at}
use Rattle.inferring.specs.Eval.{infer_eval}
use Rattle.inferring.specs.Typed.{DeclTyped, typed_of, InferReady}
use Rattle.inferring.specs.Answers.{infer_answered, infer_refused}
use Rattle.inferring.specs.Cases.{Case, inferred_by, seen, decls, library, lines, cases}

-- THE TEST: what `ready_at` of safety finds, and the types

-- a structure names one of the D declarations
abbrev pub form_number : Form → ℕ
form_number plain = 0
form_number (constructor ps fs) = 1
form_number (recursor o) = 2
form_number (structure ps c) = 3

abbrev pub Named : ℕ → Form → Type 0
Named D φ = (ps c : ℕ) → φ ≡ structure ps c → c < D

pub no_structure_named : {D : ℕ} (φ : Form) → (form_number φ ≡ 3 → ⊥) → Named D φ
no_structure_named φ h ps c q = absurd (h (ap form_number q))

pub structure_named : {D ps c : ℕ} → c < D → Named D (structure ps c)
structure_named {ps = ps} {c = c} h ps' c' q = let z : c ≡ c' = cc in omega (arith, h, z)

unfoldable pub named_at : (D : ℕ) (φ : Form) → Option (Named D φ)
unfolding at_most
named_at D plain = some (no_structure_named plain (λ z. omega arith))
named_at D (constructor ps fs) = some (no_structure_named (constructor ps fs) (λ z. omega arith))
named_at D (recursor o) = some (no_structure_named (recursor o) (λ z. omega arith))
named_at D (structure ps c) = given (at_most (suc c) D) λ h. some (structure_named h)

unfoldable pub decl_typed_at : (D : ℕ) (s : Store) (n : ℕ) (x : Decl) → Option (DeclTyped D s x)
unfolding closed_at named_at
decl_typed_at D s n x = given (closed_at s x.type) λ t. given (named_at D x.form) λ h. some (record { type = t; named = h })

pub all_ready : (e : Env) (lim : Limits) (s : Store) (t : Ptr) → Ready e lim s t → Each (λ n x. DeclTyped (decl_count e) s x) 0 e.decls →
    Each (λ n x. InScope s n x.type) 0 e.context → InferReady e lim s t
unfolding decl_at
all_ready e lim s t r ds xs = record {
  typed = typed_of e s (λ j h. each_at j ds (nth_there e.decls j _ h)) (λ j x q. each_at j xs q) r.sane;
  term = r.term;
  room = r.room;
}

unfoldable pub infer_ready_at : (e : Env) (lim : Limits) (s : Store) (t : Ptr) → Option (InferReady e lim s t)
unfolding ready_at each_of decl_typed_at in_scope_at
infer_ready_at e lim s t =
    given (ready_at e lim s t) λ r.
    given (each_of (decl_typed_at (decl_count e) s) 0 e.decls) λ ds.
    given (each_of (λ n x. in_scope_at s n x.type) 0 e.context) λ xs.
    some (all_ready e lim s t r ds xs)

-- A CASE

abbrev pub limits_for : Store → Case → Limits
limits_for s c = record { steps = c.steps; rows = length s + c.free }

-- what the rules say to a case over the declarations ds and the library s
pub data RulesSay (ds : List Decl) (s : Store) (c : Case) : Answer → Type 0 where
  answers : {t : Ptr} {k n : ℕ} {s' : Store} →
      InferAnswered (declared ds c.context) (limits_for s c) c.nesting c.spare s c.asked t k s' → length s' - length s ≡ n →
      RulesSay ds s c (term t k n)
  refuses : {k : ℕ} → InferRefused (declared ds c.context) (limits_for s c) c.nesting c.spare s c.asked k → RulesSay ds s c (refused k 0)

abbrev pub CaseReady : List Decl → Store → Case → Type 0
CaseReady ds s c = InferReady (declared ds c.context) (limits_for s c) s c.asked

unfoldable pub result : List Decl → Store → Case → Res
result ds s c = infer_eval (declared ds c.context) (limits_for s c) c.nesting c.spare s c.asked

result_says : {ds : List Decl} {s : Store} {c : Case} {a : Answer} → CaseReady ds s c → (o : Res) → result ds s c ≡ o → answer_of s o ≡ some a → RulesSay ds s c a
unfolding result answer_of
result_says {ds} {s} {c} r (ok m t) q z = subst (RulesSay ds s c) (some_same z) (answers (infer_answered r q) refl)
result_says {ds} {s} {c} r (no k) q z = subst (RulesSay ds s c) (some_same z) (refuses (infer_refused r q))
result_says r lost q z = absurd (none_some z)

seen_answer : (ds : List Decl) (s : Store) (c : Case) → (seen ds s c).answer ≡ answer_of s (result ds s c)
unfolding seen inferred_by result
seen_answer ds s c = refl

pub case_holds : {ds : List Decl} {s : Store} {c : Case} {a : Answer} → CaseReady ds s c → (seen ds s c).answer ≡ some a → RulesSay ds s c a
case_holds {ds} {s} {c} r q = result_says r (result ds s c) refl (sym (seen_answer ds s c) ∙ q)

-- A TABLE

unfoldable pub answer_seen : List Decl → Store → Case → Option Answer
unfolding seen
answer_seen ds s c = (seen ds s c).answer

unfoldable pub answer_due : Case → Option Answer
answer_due c = some c.says

table_holds : {ds : List Decl} {s : Store} {n : ℕ} {cs : List Case} → Each (λ n c. CaseReady ds s c) n cs → map (answer_seen ds s) cs ≡ map answer_due cs →
    Each (λ n c. RulesSay ds s c c.says) n cs
unfolding answer_seen answer_due
table_holds none_left q = none_left
table_holds {ds} {s} (and_then {x = c} {xs = cs} r rs) q =
    let here : (seen ds s c).answer ≡ some c.says = cc in
    let there : map (answer_seen ds s) cs ≡ map answer_due cs = cc in
    and_then (case_holds r here) (table_holds rs there)

ready_of : (cs : List Case) → Option (Each (λ n c. CaseReady decls library c) 0 cs)
ready_of cs = each_of (λ n c. infer_ready_at (declared decls c.context) (limits_for library c) library c.asked) 0 cs

lines_ready : passed (ready_of lines) ≡ true
unfolding ready_of infer_ready_at each_of decls library lines grow
lines_ready = refl

lines_computed : map (answer_seen decls library) lines ≡ map answer_due lines
unfolding answer_seen answer_due decls library lines
lines_computed = refl

pub lines_of_the_rules : Each (λ n c. RulesSay decls library c c.says) 0 lines
lines_of_the_rules = table_holds (what_passed (ready_of lines) lines_ready) lines_computed

cases_ready : passed (ready_of cases) ≡ true
unfolding ready_of infer_ready_at each_of decls library cases grow
cases_ready = refl

cases_computed : map (answer_seen decls library) cases ≡ map answer_due cases
unfolding answer_seen answer_due decls library cases
cases_computed = refl

pub cases_of_the_rules : Each (λ n c. RulesSay decls library c c.says) 0 cases
cases_of_the_rules = table_holds (what_passed (ready_of cases) cases_ready) cases_computed
