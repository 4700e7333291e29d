-- The call `infer` as a whole: two results that its statement allows are identical, the answer and whatever is left in the lent words.
-- Assumes nothing of the words.
use Rattle.std.specs.Prelude.{ℕ, ◌-◌, ◌≡◌, length}
use Rattle.std.proofs.Common.{sym, ap, ap₂, ◌∙◌, subst}
use Rattle.rules.specs.Rows.{Ptr, Store}
use Rattle.rules.specs.Declarations.{Env}
use Rattle.rules.specs.Accepted.{Lent, Accepted}
use Rattle.rules.specs.Call.{Answer, term, refused, Left, limits_of, Zeroed, Grown}
use Rattle.rules.specs.InferRefusals.{InferRefused, InferAnswered}
use Rattle.rules.specs.InferCall.{spare_records, with_records, Infer, not_accepted, refuses, answers}
use Rattle.safety.specs.Unique.{accepted_same, not_accepted_same}
use Rattle.safety.specs.Unique as U
use Rattle.safety.specs.OnCall.{SameResult, untouched_same, zeroed_same, grown_same}
use Rattle.inferring.specs.Typed.{accepted_infer_ready}
use Rattle.inferring.specs.Answers.{types_same, refusals_same, never_both}

-- over one environment and one store
module _ {w : Lent} {e : Env} {s : Store} (accepted : Accepted w e s) where
  refuses_same : {k k' : ℕ} {l l' : Left} → InferRefused e (limits_of w) w.nesting (spare_records w) s w.term k → Zeroed (with_records w) l →
      InferRefused e (limits_of w) w.nesting (spare_records w) s w.term k' → Zeroed (with_records w) l' → SameResult (refused k 0) (refused k' 0) l l'
  refuses_same r z r' z' = record {
    answer = ap (λ (n : ℕ). refused n 0) (refusals_same (accepted_infer_ready accepted) r r');
    left = zeroed_same z z';
  }

  answers_alike : {s₁ s₂ : Store} {t₁ t₂ : Ptr} {k₁ k₂ n₁ n₂ : ℕ} {l l' : Left} →
      InferAnswered e (limits_of w) w.nesting (spare_records w) s w.term t₁ k₁ s₁ → length s₁ - length s ≡ n₁ → Grown (with_records w) s s₁ l →
      InferAnswered e (limits_of w) w.nesting (spare_records w) s w.term t₂ k₂ s₂ → length s₂ - length s ≡ n₂ → Grown (with_records w) s s₂ l' →
      SameResult (term t₁ k₁ n₁) (term t₂ k₂ n₂) l l'
  answers_alike {l' = l'} a q g a' q' g' =
      let z = types_same (accepted_infer_ready accepted) a a' in
      let rows = sym q ∙ ap (λ (x : Store). length x - length s) z.store ∙ q' in
      record {
        answer = λ i. term (z.term i) (z.steps i) (rows i);
        left = grown_same g (subst (λ (x : Store). Grown (with_records w) s x l') (sym z.store) g');
      }

pub infer_same : {w : Lent} {a a' : Answer} {l l' : Left} → Infer w a l → Infer w a' l' → SameResult a a' l l'
infer_same {w} (not_accepted n u) (not_accepted n' u') =
    let z = not_accepted_same w n n' in record { answer = ap₂ refused z.0 z.1; left = untouched_same u u' }
infer_same {w} (not_accepted n u) (refuses a r z) = absurd (U.not_accepted w n a)
infer_same {w} (not_accepted n u) (answers a r q g) = absurd (U.not_accepted w n a)
infer_same {w} (refuses a r z) (not_accepted n u) = absurd (U.not_accepted w n a)
infer_same {w} (answers a r q g) (not_accepted n u) = absurd (U.not_accepted w n a)
infer_same {w} (refuses a r z) (refuses a' r' z') =
    let e = accepted_same w a a' in refuses_same a r z (rw (← e.0, ← e.1) at r') z'
infer_same {w} (refuses a r z) (answers a' r' q' g') =
    let e = accepted_same w a a' in absurd (never_both (accepted_infer_ready a) (rw (← e.0, ← e.1) at r') r)
infer_same {w} (answers a r q g) (refuses a' r' z') =
    let e = accepted_same w a a' in absurd (never_both (accepted_infer_ready a) r (rw (← e.0, ← e.1) at r'))
infer_same {w} (answers a r q g) (answers a' r' q' g') =
    let e = accepted_same w a a' in answers_alike a r q g (rw (← e.0, ← e.1) at r') (rw (← e.1) at q') (rw (← e.1) at g')
