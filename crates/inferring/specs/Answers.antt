-- The theorems about inference: its rules give a type or refuse, exactly one of the two and in one way, and the evaluator computes which; a type is in
-- scope at the same depth, it touches no earlier row, and every new row passes; larger budgets keep it.
-- Where a statement takes `InferReady`, accepted input gives it (`accepted_infer_ready` of Typed.antt); the others hold for all stores.
use Rattle.std.specs.Prelude.{ℕ, suc, ◌≤◌, ◌≡◌}
use Rattle.std.proofs.Common.{le_trans, arith, sym, ap, ◌∙◌, subst}
use Rattle.rules.specs.Rows.{Ptr, Store}
use Rattle.rules.specs.RowCheck.{AllPass, InScope}
use Rattle.rules.specs.Declarations.{Env}
use Rattle.rules.specs.Firings.{Tally, tally}
use Rattle.rules.specs.Accepted.{Lent, Accepted}
use Rattle.rules.specs.Refusals.{Limits, no_step, no_free_row, no_level, too_large, no_size}
use Rattle.rules.specs.Call.{limits_of}
use Rattle.rules.specs.InferRefusals.{InferDemand, InferFails, as_reduction_fails, no_type, too_high, no_spare_record, InferRefused, InferAnswered}
use Rattle.rules.specs.InferCall.{spare_records}
use Rattle.course.specs.Eval.{Res, ok, no}
use Rattle.substitution.specs.Stores.{Ext}
use Rattle.promises.specs.Larger.{AtLeast}
use Rattle.safety.specs.Sane.{depth_of, decl_count, accepted_depth}
use Rattle.safety.specs.Answers.{SameAnswer}
use Rattle.inferring.specs.Asks.{asks}
use Rattle.inferring.specs.Eval.{infer_eval}
use Rattle.inferring.specs.Courses as C
use Rattle.inferring.specs.ToAsks.{to_types}
use Rattle.inferring.specs.ToDemands.{to_type_meets}
use Rattle.inferring.specs.FromAsks.{from_types, from_type_meets}
use Rattle.inferring.specs.Typed.{InferReady, accepted_infer_ready}
use Rattle.inferring.specs.Says.{Stands, Says, s_ok, s_no, PartSays, a_level_there, part_says}
use Rattle.inferring.specs.Complete.{types_got, type_refused}
use Rattle.inferring.specs.Deeper.{types_deeper}

-- 4 TO 11

failing_number : {lim : Limits} {m : Tally} {a : InferDemand} {n : ℕ} → InferFails lim m a n → (4 ≤ n) × (n ≤ 11)
failing_number (as_reduction_fails (no_step h)) = omega arith
failing_number (as_reduction_fails (no_free_row f h)) = omega arith
failing_number (as_reduction_fails no_level) = omega arith
failing_number (as_reduction_fails (too_large h)) = omega arith
failing_number (as_reduction_fails (no_size h)) = omega arith
failing_number no_type = omega arith
failing_number (too_high h) = omega arith
failing_number no_spare_record = omega arith

pub infer_refusal_numbers : {e : Env} {lim : Limits} {N R : ℕ} {s : Store} {t : Ptr} {n : ℕ} → InferRefused e lim N R s t n → (4 ≤ n) × (n ≤ 11)
infer_refusal_numbers r = failing_number r.fails

-- LARGER BUDGETS: more steps, more rows, more nesting, more spare records

pub larger_infer_budgets : {e : Env} {lim lim' : Limits} {N N' R R' : ℕ} {s : Store} {t p : Ptr} {k : ℕ} {s' : Store} →
    AtLeast lim lim' → N ≤ N' → R ≤ R' → InferAnswered e lim N R s t p k s' → InferAnswered e lim' N' R' s t p k s'
larger_infer_budgets more l h a = record {
  infers = from_types (types_deeper (to_types a.infers) l h);
  within = record { steps = le_trans a.within.steps more.steps; rows = le_trans a.within.rows more.rows };
}

-- EXACTLY ONE, AND THE EVALUATOR COMPUTES IT

-- what a result says holds of the rules; that the evaluator is lost says nothing, so it never holds
pub data InferHolds (e : Env) (lim : Limits) (N R : ℕ) (s : Store) (t : Ptr) : Res → Type 0 where
  type_holds : {p : Ptr} {k : ℕ} {s' : Store} → InferAnswered e lim N R s t p k s' → InferHolds e lim N R s t (ok (tally k s') p)
  refusal_holds : {n : ℕ} → InferRefused e lim N R s t n → InferHolds e lim N R s t (no n)

pub holds_answered : {e : Env} {lim : Limits} {N R : ℕ} {s : Store} {t p : Ptr} {m : Tally} →
    InferHolds e lim N R s t (ok m p) → InferAnswered e lim N R s t p m.steps m.store
holds_answered (type_holds a) = a

pub holds_refused : {e : Env} {lim : Limits} {N R : ℕ} {s : Store} {t : Ptr} {n : ℕ} → InferHolds e lim N R s t (no n) → InferRefused e lim N R s t n
holds_refused (refusal_holds a) = a

below : {lim : Limits} {e : Env} {d r : ℕ} {m : Tally} {t : Ptr} {o : Res} → PartSays lim e (suc d) r m t o → Says lim e d r m (asks e m.store t) o
below (a_level_there x) = x

apart : {m : Tally} {p : Ptr} {n : ℕ} → ok m p ≡ no n → ⊥
apart q = let z : ◌≡◌ {A = ℕ} 0 1 = cc in omega arith

module _ {e : Env} {lim : Limits} {s : Store} {t : Ptr} {N R : ℕ} (ready : InferReady e lim s t) where
  said : Says lim e N R (tally 0 s) (asks e s t) (infer_eval e lim N R s t)
  unfolding infer_eval
  said = below (part_says lim (suc N) e R (tally 0 s) t (record { steps = omega arith; rows = ready.room }) ready.typed ready.term)

  holds_said : {o : Res} → Says lim e N R (tally 0 s) (asks e s t) o → InferHolds e lim N R s t o
  holds_said (s_ok c v k) = type_holds (record { infers = from_types (C.by_asks c); within = v })
  holds_said (s_no {m₁ = m} {a = a} x v f) = refusal_holds (record { demand = a; at = m; meets = from_type_meets (C.by_asks x); within = v; fails = f })

  -- the rules give a type or refuse, as the evaluator does
  pub one_infer_holds : InferHolds e lim N R s t (infer_eval e lim N R s t)
  one_infer_holds = holds_said said

  -- the evaluator gives what the rules give ..
  pub answered_infer : {p : Ptr} {k : ℕ} {s' : Store} → InferAnswered e lim N R s t p k s' → infer_eval e lim N R s t ≡ ok (tally k s') p
  unfolding infer_eval
  answered_infer a = types_got lim (to_types a.infers) a.within ready.typed ready.term

  pub refused_infer : {n : ℕ} → InferRefused e lim N R s t n → infer_eval e lim N R s t ≡ no n
  unfolding infer_eval
  refused_infer a = type_refused lim (to_type_meets a.meets) a.within a.fails ready.typed ready.term

  -- .. and the rules what the evaluator gives
  pub infer_answered : {p : Ptr} {m : Tally} → infer_eval e lim N R s t ≡ ok m p → InferAnswered e lim N R s t p m.steps m.store
  infer_answered q = holds_answered (subst (InferHolds e lim N R s t) q one_infer_holds)

  pub infer_refused : {n : ℕ} → infer_eval e lim N R s t ≡ no n → InferRefused e lim N R s t n
  infer_refused q = holds_refused (subst (InferHolds e lim N R s t) q one_infer_holds)

  -- what holds is the evaluator's result, so two results that the statement allows are identical, and never is one a type and the other a refusal
  pub holds_infer : {o : Res} → InferHolds e lim N R s t o → infer_eval e lim N R s t ≡ o
  holds_infer (type_holds a) = answered_infer a
  holds_infer (refusal_holds a) = refused_infer a

  pub infer_holds_same : {o o' : Res} → InferHolds e lim N R s t o → InferHolds e lim N R s t o' → o ≡ o'
  infer_holds_same a b = sym (holds_infer a) ∙ holds_infer b

  pub types_same : {p₁ p₂ : Ptr} {k₁ k₂ : ℕ} {s₁ s₂ : Store} → InferAnswered e lim N R s t p₁ k₁ s₁ → InferAnswered e lim N R s t p₂ k₂ s₂ →
      SameAnswer p₁ p₂ k₁ k₂ s₁ s₂
  types_same {p₁} {p₂} {k₁} {k₂} {s₁} {s₂} a b =
      let same : ok (tally k₁ s₁) p₁ ≡ ok (tally k₂ s₂) p₂ = infer_holds_same (type_holds a) (type_holds b) in
      let type : p₁ ≡ p₂ = cc in
      let tallies : tally k₁ s₁ ≡ tally k₂ s₂ = cc in
      record { term = type; steps = ap (λ (m : Tally). m.steps) tallies; store = ap (λ (m : Tally). m.store) tallies }

  pub refusals_same : {n n' : ℕ} → InferRefused e lim N R s t n → InferRefused e lim N R s t n' → n ≡ n'
  refusals_same {n} {n'} a b =
      let same : no n ≡ no n' = infer_holds_same (refusal_holds a) (refusal_holds b) in
      let number : n ≡ n' = cc in
      number

  pub never_both : {p : Ptr} {k n : ℕ} {s' : Store} → InferAnswered e lim N R s t p k s' → InferRefused e lim N R s t n → ⊥
  never_both a b = apart (sym (answered_infer a) ∙ refused_infer b)

  -- THE TYPE: in scope, over the old rows, and its new ones pass

  stands_said : {m : Tally} {p : Ptr} → Says lim e N R (tally 0 s) (asks e s t) (ok m p) → Stands (decl_count e) (depth_of e) s m.store p
  stands_said (s_ok c v k) = k

  type_stands : {p : Ptr} {k : ℕ} {s' : Store} → InferAnswered e lim N R s t p k s' → Stands (decl_count e) (depth_of e) s s' p
  type_stands a = stands_said (subst (Says lim e N R (tally 0 s) (asks e s t)) (answered_infer a) said)

  pub type_in_scope : {p : Ptr} {k : ℕ} {s' : Store} → InferAnswered e lim N R s t p k s' → InScope s' (depth_of e) p
  type_in_scope a = (type_stands a).scope

  pub type_untouched : {p : Ptr} {k : ℕ} {s' : Store} → InferAnswered e lim N R s t p k s' → Ext s s'
  type_untouched a = (type_stands a).more

  pub type_rows_pass : {p : Ptr} {k : ℕ} {s' : Store} → InferAnswered e lim N R s t p k s' → AllPass (decl_count e) s'
  type_rows_pass a = (type_stands a).pass

-- larger budgets, of the evaluator
pub larger_infer : {e : Env} {lim lim' : Limits} {N N' R R' : ℕ} {s : Store} {t p : Ptr} {m : Tally} → InferReady e lim s t →
    AtLeast lim lim' → N ≤ N' → R ≤ R' → infer_eval e lim N R s t ≡ ok m p → infer_eval e lim' N' R' s t ≡ ok m p
larger_infer ready more l h q =
    answered_infer (record { typed = ready.typed; term = ready.term; room = le_trans ready.room more.rows })
    (larger_infer_budgets more l h (infer_answered ready q))

-- ACCEPTED INPUT

module _ {w : Lent} {e : Env} {s : Store} (a : Accepted w e s) where
  pub accepted_infer_holds :
      InferHolds e (limits_of w) w.nesting (spare_records w) s w.term (infer_eval e (limits_of w) w.nesting (spare_records w) s w.term)
  accepted_infer_holds = one_infer_holds (accepted_infer_ready a)

  pub accepted_type_in_scope : {p : Ptr} {k : ℕ} {s' : Store} → InferAnswered e (limits_of w) w.nesting (spare_records w) s w.term p k s' →
      InScope s' w.depth p
  accepted_type_in_scope {p} {s' = s'} q = subst (λ (d : ℕ). InScope s' d p) (accepted_depth a) (type_in_scope (accepted_infer_ready a) q)
