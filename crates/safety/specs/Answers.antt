-- The theorems about the rules: they answer or refuse, exactly one of the two and in one way, and the evaluator computes which; an answer is in scope,
-- and it touches no earlier row; larger budgets keep it. Where a statement takes `Ready`, accepted input gives it (`accepted_ready` of Sane.antt); the
-- others hold for all stores.
use Rattle.std.specs.Prelude.{ℕ, ◌≤◌, ◌≡◌}
use Rattle.std.proofs.Common.{le_refl, le_trans, arith, ap, subst}
use Rattle.rules.specs.Rows.{Ptr, Store}
use Rattle.rules.specs.RowCheck.{AllPass, InScope}
use Rattle.rules.specs.Declarations.{Env}
use Rattle.rules.specs.Firings.{Tally, tally}
use Rattle.rules.specs.Accepted.{Lent, Accepted}
use Rattle.rules.specs.Refusals.{Demand, Limits, Fails, no_step, no_free_row, no_level, too_large, no_size, Refused, Answered}
use Rattle.rules.specs.Call.{limits_of}
use Rattle.course.specs.ToTries.{to_runs, to_meets}
use Rattle.course.specs.FromTries.{from_runs}
use Rattle.course.specs.FromDemands.{from_meets}
use Rattle.course.specs.Eval.{Res, ok, no, eval}
use Rattle.substitution.specs.Stores.{Ext}
use Rattle.promises.specs.Says.{ResSays, r_ok, r_no, r_lost, says}
use Rattle.promises.specs.Same.{runs_same}
use Rattle.promises.specs.Apart.{runs_apart}
use Rattle.promises.specs.First as F
use Rattle.promises.specs.Larger.{AtLeast, runs_deeper}
use Rattle.safety.specs.Sane.{depth_of, decl_count, Ready, accepted_ready, accepted_depth}
use Rattle.safety.specs.Keeps.{Leaves, runs_keep}
use Rattle.safety.specs.NeverLost.{run_never_lost}

-- AT MOST ONE, IN ONE WAY

pub record SameAnswer (t t' : Ptr) (k k' : ℕ) (s s' : Store) : Type 0 where
  pub term : t ≡ t'
  pub steps : k ≡ k'
  pub store : s ≡ s'

pub answers_same : {e : Env} {lim : Limits} {N : ℕ} {s : Store} {t t₁ t₂ : Ptr} {k₁ k₂ : ℕ} {s₁ s₂ : Store} →
    Answered e lim N s t t₁ k₁ s₁ → Answered e lim N s t t₂ k₂ s₂ → SameAnswer t₁ t₂ k₁ k₂ s₁ s₂
answers_same {e} a b =
    let z = runs_same e (to_runs e a.reduces) (to_runs e b.reduces) in
    record { term = z.term; steps = ap (λ (m : Tally). m.steps) z.tally; store = ap (λ (m : Tally). m.store) z.tally }

pub refusals_same : {e : Env} {lim : Limits} {N : ℕ} {s : Store} {t : Ptr} {k₁ k₂ : ℕ} →
    Refused e lim N s t k₁ → Refused e lim N s t k₂ → k₁ ≡ k₂
refusals_same {e} {lim} a b =
    F.refusals_same e lim (to_meets e a.meets) (record { within = a.within; fails = a.fails })
    (to_meets e b.meets) (record { within = b.within; fails = b.fails })

pub never_both : {e : Env} {lim : Limits} {N : ℕ} {s : Store} {t t' : Ptr} {k n : ℕ} {s' : Store} →
    Answered e lim N s t t' k s' → Refused e lim N s t n → ⊥
never_both {e} {lim} a b = runs_apart e lim (to_runs e a.reduces) a.within (le_refl _) (to_meets e b.meets) b.fails

failing_number : {lim : Limits} {m : Tally} {a : Demand} {n : ℕ} → Fails lim m a n → (4 ≤ n) × (n ≤ 8)
failing_number (no_step h) = omega arith
failing_number (no_free_row f h) = omega arith
failing_number no_level = omega arith
failing_number (too_large h) = omega arith
failing_number (no_size h) = omega arith

pub refusal_numbers : {e : Env} {lim : Limits} {N : ℕ} {s : Store} {t : Ptr} {n : ℕ} → Refused e lim N s t n → (4 ≤ n) × (n ≤ 8)
refusal_numbers r = failing_number r.fails

-- LARGER BUDGETS: more steps, more rows, more nesting

pub larger_budgets : {e : Env} {lim lim' : Limits} {N N' : ℕ} {s : Store} {t t' : Ptr} {k : ℕ} {s' : Store} →
    AtLeast lim lim' → N ≤ N' → Answered e lim N s t t' k s' → Answered e lim' N' s t t' k s'
larger_budgets {e} more l a = record {
  reduces = from_runs e (runs_deeper e (to_runs e a.reduces) l);
  within = record { steps = le_trans a.within.steps more.steps; rows = le_trans a.within.rows more.rows };
}

-- EXACTLY ONE, AND THE EVALUATOR COMPUTES IT

-- what a result says holds of the rules; that the evaluator is lost says nothing, so it never holds
pub data Holds (e : Env) (lim : Limits) (N : ℕ) (s : Store) (t : Ptr) : Res → Type 0 where
  term_holds : {t' : Ptr} {k : ℕ} {s' : Store} → Answered e lim N s t t' k s' → Holds e lim N s t (ok (tally k s') t')
  refusal_holds : {n : ℕ} → Refused e lim N s t n → Holds e lim N s t (no n)

-- two results that the statement allows are identical
pub holds_same : {e : Env} {lim : Limits} {N : ℕ} {s : Store} {t : Ptr} {o o' : Res} → Holds e lim N s t o → Holds e lim N s t o' → o ≡ o'
holds_same (term_holds a) (term_holds b) = let z = answers_same a b in λ i. ok (tally (z.steps i) (z.store i)) (z.term i)
holds_same (term_holds a) (refusal_holds b) = absurd (never_both a b)
holds_same (refusal_holds a) (term_holds b) = absurd (never_both b a)
holds_same (refusal_holds a) (refusal_holds b) = ap no (refusals_same a b)

holds_answered : {e : Env} {lim : Limits} {N : ℕ} {s : Store} {t t' : Ptr} {m : Tally} →
    Holds e lim N s t (ok m t') → Answered e lim N s t t' m.steps m.store
holds_answered (term_holds a) = a

holds_refused : {e : Env} {lim : Limits} {N : ℕ} {s : Store} {t : Ptr} {n : ℕ} → Holds e lim N s t (no n) → Refused e lim N s t n
holds_refused (refusal_holds a) = a

module _ {e : Env} {lim : Limits} {s : Store} {t : Ptr} {N : ℕ} (ready : Ready e lim s t) where
  holds_said : {o : Res} → ResSays e lim N (tally 0 s) t o → Holds e lim N s t o
  holds_said (r_ok r v) = term_holds (record { reduces = from_runs e r; within = v })
  holds_said (r_no {m₁ = m} {a = a} x v f) = refusal_holds (record { demand = a; at = m; meets = from_meets e x; within = v; fails = f })
  holds_said (r_lost x) = absurd (run_never_lost x ready.sane ready.term)

  -- the rules answer or refuse, as the evaluator does
  pub one_holds : Holds e lim N s t (eval e lim N s t)
  one_holds = holds_said (says e lim N s t ready.room)

  pub answered_eval : {t' : Ptr} {k : ℕ} {s' : Store} → Answered e lim N s t t' k s' → eval e lim N s t ≡ ok (tally k s') t'
  answered_eval a = holds_same one_holds (term_holds a)

  pub eval_answered : {t' : Ptr} {m : Tally} → eval e lim N s t ≡ ok m t' → Answered e lim N s t t' m.steps m.store
  eval_answered q = holds_answered (subst (Holds e lim N s t) q one_holds)

  pub refused_eval : {n : ℕ} → Refused e lim N s t n → eval e lim N s t ≡ no n
  refused_eval r = holds_same one_holds (refusal_holds r)

  pub eval_refused : {n : ℕ} → eval e lim N s t ≡ no n → Refused e lim N s t n
  eval_refused q = holds_refused (subst (Holds e lim N s t) q one_holds)

  -- THE ANSWER: in scope, over the old rows, and its new ones pass

  answer_leaves : {t' : Ptr} {k : ℕ} {s' : Store} → Answered e lim N s t t' k s' → Leaves e s s' t'
  answer_leaves a = runs_keep (to_runs e a.reduces) ready.sane ready.term

  pub in_scope : {t' : Ptr} {k : ℕ} {s' : Store} → Answered e lim N s t t' k s' → InScope s' (depth_of e) t'
  in_scope a = (answer_leaves a).term

  pub untouched : {t' : Ptr} {k : ℕ} {s' : Store} → Answered e lim N s t t' k s' → Ext s s'
  untouched a = (answer_leaves a).more

  pub new_rows_pass : {t' : Ptr} {k : ℕ} {s' : Store} → Answered e lim N s t t' k s' → AllPass (decl_count e) s'
  new_rows_pass a = (answer_leaves a).sane.pass

-- ACCEPTED INPUT

module _ {w : Lent} {e : Env} {s : Store} (a : Accepted w e s) where
  pub accepted_holds : Holds e (limits_of w) w.nesting s w.term (eval e (limits_of w) w.nesting s w.term)
  accepted_holds = one_holds (accepted_ready a)

  pub accepted_in_scope : {t' : Ptr} {k : ℕ} {s' : Store} → Answered e (limits_of w) w.nesting s w.term t' k s' → InScope s' w.depth t'
  accepted_in_scope {t'} {s' = s'} q = subst (λ (d : ℕ). InScope s' d t') (accepted_depth a) (in_scope (accepted_ready a) q)
