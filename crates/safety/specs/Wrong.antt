-- The wrong reducers of document 01 do not meet the statement: one that always refuses, one that hands back its input, one that answers sort 0, one that
-- fires only the first rule, one that invents steps or rows. Each is shut out by an example. Assumes only that the reducer meets the statement.
use Rattle.std.specs.Prelude.{ℕ, ◌-◌, ◌≤◌, ◌<◌, ◌≡◌, refl, true, List, [], ◌∷◌, length}
use Rattle.std.proofs.Common.{arith as numbers, ap, ◌∙◌, sym, subst}
use Rattle.std.proofs.Math.Option.{none, some}
use Rattle.rules.specs.Kinds.{sort, lam, let'}
use Rattle.rules.specs.Rows.{Ptr, blank, Row, var, node, leaf, Store, cell, cell_at, row_at, grow}
use Rattle.rules.specs.Declarations.{Decl, Env, nth}
use Rattle.rules.specs.Spines.{NoApp, no_let, Spine, head}
use Rattle.rules.specs.Firings.{Tally}
use Rattle.rules.specs.Refusals.{Limits}
use Rattle.rules.specs.Call.{Answer, term}
use Rattle.course.specs.Eval.{Res, ok, no, lost, eval}
use Rattle.course.specs.Tables.{at, ap', declared, Case, answer_of, seen}
use Rattle.safety.specs.Sane.{Ready}
use Rattle.safety.specs.Checks.{passed, what_passed, each_at, ready_at}
use Rattle.safety.specs.Answers.{Holds, holds_same, one_holds}
use Rattle.safety.specs.ExamplesOfRules.{limits_for, CaseReady, RulesSay, result, case_holds, rules_computed, answer_seen, table_ready}
use Rattle.safety.specs.ExamplesOfRules.{E1_to_E11_of_the_rules}
use Rattle.course.specs.Examples.{ask, decls, library, table, E1, E2, E3, E4}

-- A REDUCER

abbrev pub Reducer : Type 0
Reducer = Env → Limits → ℕ → Store → Ptr → Res

-- the statement: on input that is ready, whatever the reducer says holds of the rules
pub record Meets (f : Reducer) : Type 0 where
  pub holds : (e : Env) (lim : Limits) (N : ℕ) (s : Store) (t : Ptr) → Ready e lim s t → Holds e lim N s t (f e lim N s t)

-- so it says what the evaluator says
pub meets_eval : {f : Reducer} {e : Env} {lim : Limits} {s : Store} {t : Ptr} (N : ℕ) → Meets f → Ready e lim s t → f e lim N s t ≡ eval e lim N s t
meets_eval {e = e} {lim} {s} {t} N m r = holds_same (m.holds e lim N s t r) (one_holds r)

-- HOW A REDUCER MAY BE WRONG

pub data Refusal : Res → Type 0 where
  a_refusal : {n : ℕ} → Refusal (no n)

pub data Term (P : Tally → Ptr → Type 0) : Res → Type 0 where
  a_term : {m : Tally} {p : Ptr} → P m p → Term P (ok m p)

-- of every input s, t it says something of this kind
abbrev pub Always : Reducer → (Store → Ptr → Res → Type 0) → Type 0
Always f P = (e : Env) (lim : Limits) (N : ℕ) (s : Store) (t : Ptr) → P s t (f e lim N s t)

-- WHAT IT SAYS TO A CASE

abbrev said : Reducer → List Decl → Store → Case → Res
said f ds s c = f (declared ds c.context) (limits_for s c) c.nesting s c.asked

module _ (f : Reducer) (m : Meets f) (ds : List Decl) (s : Store) (c : Case) (r : CaseReady ds s c) where
  says_result : said f ds s c ≡ result ds s c
  unfolding result
  says_result = meets_eval c.nesting m r

  says_answer : {a : Answer} → RulesSay ds s c a → answer_of s (said f ds s c) ≡ some a
  says_answer h = ap (answer_of s) says_result ∙ rules_computed r h

-- to example i of the table
says_row : (f : Reducer) (m : Meets f) (i : ℕ) {c : Case} → nth table i ≡ some c → answer_of library (said f decls library c) ≡ some c.says
says_row f m i {c} q = says_answer f m decls library c (each_at i table_ready q) (each_at i E1_to_E11_of_the_rules q)

-- where a term is due, it is no refusal, and its counts are those that are due
not_refused : (s : Store) {o : Res} {t : Ptr} {k n : ℕ} → answer_of s o ≡ some (term t k n) → Refusal o → ⊥
unfolding answer_of
not_refused s {t = t} {k} {n} q (a_refusal {n = j}) = let clash : ◌≡◌ {A = ℕ} 0 1 = cc in omega numbers

record Due (P : Tally → Ptr → Type 0) (s : Store) (t : Ptr) (k n : ℕ) : Type 0 where
  tally : Tally
  holds : P tally t
  steps : tally.steps ≡ k
  rows : length tally.store - length s ≡ n

read_off : (s : Store) {o : Res} {P : Tally → Ptr → Type 0} {t : Ptr} {k n : ℕ} → answer_of s o ≡ some (term t k n) → Term P o → Due P s t k n
unfolding answer_of
read_off s {P = P} {t} {k} {n} q (a_term {m = m} {p = p} h) =
    let same_term : p ≡ t = cc in
    record { tally = m; holds = subst (P m) same_term h; steps = cc; rows = cc }

-- THE FIVE

-- it always refuses: E1 is answered
pub always_refuses : {f : Reducer} → Always f (λ s t o. Refusal o) → Meets f → ⊥
unfolding table nth
always_refuses {f} h m = not_refused library (says_row f m 0 {c = E1} refl) (h _ _ _ _ _)

-- it hands back its input: E2 answers another pointer
pub hands_back : {f : Reducer} → Always f (λ s t o. Term (λ m p. p ≡ t) o) → Meets f → ⊥
unfolding table nth
hands_back {f} h m =
    let z = read_off library {P = λ m p. p ≡ at 6} (says_row f m 1 {c = E2} refl) (h _ _ _ _ _) in
    omega (numbers, ap (λ (p : Ptr). p.row) z.holds)

-- it always answers sort 0: E3's is a variable
unfoldable answer_row : Res → Row
answer_row (ok m p) = row_at m.store p.row
answer_row (no k) = leaf (sort 0)
answer_row lost = leaf (sort 0)

E3_row : answer_row (result decls library E3) ≡ var 2
unfolding answer_row result answer_seen decls library
E3_row = refl

row_said : {o : Res} {w : Row} → Term (λ m p. row_at m.store p.row ≡ w) o → answer_row o ≡ w
unfolding answer_row
row_said (a_term q) = q

pub answers_sort_0 : {f : Reducer} → Always f (λ s t o. Term (λ m p. row_at m.store p.row ≡ leaf (sort 0)) o) → Meets f → ⊥
unfolding table nth
answers_sort_0 {f} h m =
    let row : leaf (sort 0) ≡ var 2 = sym (row_said (h _ _ _ _ _)) ∙ ap answer_row (says_result f m decls library E3 (each_at 2 table_ready refl)) ∙ E3_row in
    let clash : ◌≡◌ {A = ℕ} 0 1 = cc in
    omega numbers

-- it knows the first rule alone, the lambda's, and calls every other head final: E4's is a let
pub record OtherHead (s : Store) (t : Ptr) : Type 0 where
  pub head : Ptr
  pub arguments : List Ptr
  pub spine : Spine s t [] head arguments
  pub other : (x y z : Ptr) → row_at s head.row ≡ node lam x y z → ⊥

E4_row : row_at library 9 ≡ node let' (at 2) (at 1) (at 3)
unfolding library cell_at cell
E4_row = refl

let_lambda : {a b c x y z : Ptr} → node let' a b c ≡ node lam x y z → ⊥
let_lambda q = let clash : ◌≡◌ {A = ℕ} 0 1 = cc in omega numbers

E4_head : OtherHead library (at 9)
E4_head = record { head = at 9; arguments = []; spine = head (subst NoApp (sym E4_row) no_let); other = λ x y z q. let_lambda (sym E4_row ∙ q) }

pub first_rule_only : {f : Reducer} → Always f (λ s t o. OtherHead s t → Term (λ m p. p ≡ t) o) → Meets f → ⊥
unfolding table nth
first_rule_only {f} h m =
    let z = read_off library {P = λ m p. p ≡ at 9} (says_row f m 3 {c = E4} refl) (h _ _ _ _ _ E4_head) in
    omega (numbers, ap (λ (p : Ptr). p.row) z.holds)

-- or it fires once and calls the result final: (lambda sort 0. var 0) ((lambda sort 0. var 0) (sort 0)) takes two steps
unfoldable two_lambdas : Store
unfolding grow
two_lambdas = grow [] (leaf (sort 0) ∷ var 0 ∷ node lam (at 0) (at 1) blank ∷ ap' 2 0 ∷ ap' 2 3 ∷ [])

abbrev twice : Case
twice = ask 4 (term (at 0) 2 0) none

twice_passed : passed (ready_at (declared [] []) (limits_for two_lambdas twice) two_lambdas (at 4)) ≡ true
unfolding ready_at two_lambdas
twice_passed = refl

twice_ready : CaseReady [] two_lambdas twice
twice_ready = what_passed (ready_at (declared [] []) (limits_for two_lambdas twice) two_lambdas (at 4)) twice_passed

twice_seen : (seen [] two_lambdas twice).answer ≡ some (term (at 0) 2 0)
unfolding seen two_lambdas
twice_seen = refl

pub fires_once : {f : Reducer} → Always f (λ s t o. Term (λ m p. m.steps ≤ 1) o) → Meets f → ⊥
fires_once {f} h m =
    let z = read_off two_lambdas (says_answer f m [] two_lambdas twice twice_ready (case_holds twice_ready twice_seen)) (h _ _ _ _ _) in
    omega (numbers, z.holds, z.steps)

-- it invents a step, or a row: E1 takes none
pub invents_steps : {f : Reducer} → Always f (λ s t o. Term (λ m p. 0 < m.steps) o) → Meets f → ⊥
unfolding table nth
invents_steps {f} h m = let z = read_off library (says_row f m 0 {c = E1} refl) (h _ _ _ _ _) in omega (numbers, z.holds, z.steps)

pub invents_rows : {f : Reducer} → Always f (λ s t o. Term (λ m p. length s < length m.store) o) → Meets f → ⊥
unfolding table nth
invents_rows {f} h m = let z = read_off library (says_row f m 0 {c = E1} refl) (h _ _ _ _ _) in omega (numbers, z.holds, z.rows)
