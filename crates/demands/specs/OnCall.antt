-- Demand 3 on the exported call's own statement: what an answered term holds, the same term under larger budgets, and that it answers itself.
-- Assumes accepted words, and nothing else.
use Rattle.std.specs.Prelude.{ℕ, ◌+◌, ◌-◌, ◌≤◌, ◌≡◌, length}
use Rattle.std.proofs.Common.{arith, sym, ap, ◌∙◌, subst}
use Rattle.rules.specs.Rows.{Ptr, Store}
use Rattle.rules.specs.RowCheck.{AllPass, InScope}
use Rattle.rules.specs.Declarations.{Env}
use Rattle.rules.specs.Accepted.{Lent, Accepted}
use Rattle.rules.specs.HeadRules.{final}
use Rattle.rules.specs.Refusals.{Answered}
use Rattle.rules.specs.Call.{Answer, term, Left, limits_of, Grown, Whnf, not_accepted, refuses, answers}
use Rattle.substitution.specs.Stores.{Ext}
use Rattle.promises.specs.Larger.{AtLeast}
use Rattle.safety.specs.Sane.{decl_count, accepted_ready}
use Rattle.safety.specs.Answers.{answers_same, never_both, larger_budgets, untouched, new_rows_pass, accepted_in_scope}
use Rattle.safety.specs.Unique.{accepted_same}
use Rattle.safety.specs.Unique as unique
use Rattle.again.specs.Again.{room_again}
use Rattle.again.proofs.OnCall.{call_again}

-- where the rules answer a term, the call does
pub call_answers : {w : Lent} {e : Env} {s s' : Store} {t : Ptr} {k : ℕ} {x : Answer} {l : Left} → Accepted w e s →
    Answered e (limits_of w) w.nesting s w.term t k s' → Whnf w x l → x ≡ term t k (length s' - length s)
call_answers {w} a r (not_accepted n u) = absurd (unique.not_accepted w n a)
call_answers {w} a r (refuses a' r' z) = let same = accepted_same w a a' in absurd (never_both r (rw (← same.0, ← same.1) at r'))
call_answers {w} {s = s} a r (answers a' r' q g) =
    let same = accepted_same w a a' in
    let one = answers_same r (rw (← same.0, ← same.1) at r') in
    let rows = ap (λ (y : Store). length y - length s) one.store ∙ (rw (← same.1) at q) in
    λ i. term (sym one.term i) (sym one.steps i) (sym rows i)

-- WHAT AN ANSWERED TERM HOLDS: "in scope at the same depth, earlier rows untouched, every new row passing the row check"
pub record TermHolds (w : Lent) (e : Env) (s : Store) (t : Ptr) (k n : ℕ) (l : Left) : Type 0 where
  pub store : Store
  pub answered : Answered e (limits_of w) w.nesting s w.term t k store
  pub rows : length store - length s ≡ n
  pub in_scope : InScope store w.depth t
  pub untouched : Ext s store
  pub new_rows_pass : AllPass (decl_count e) store
  pub left : Grown w s store l

module _ {w : Lent} {e : Env} {s : Store} (a : Accepted w e s) {t : Ptr} {k n : ℕ} {l : Left} where
  pub term_holds : Whnf w (term t k n) l → TermHolds w e s t k n l
  term_holds (answers {s' = s'} a' r' q g) =
      let same = accepted_same w a a' in
      let r = rw (← same.0, ← same.1) at r' in
      record {
        store = s';
        answered = r;
        rows = rw (← same.1) at q;
        in_scope = accepted_in_scope a r;
        untouched = untouched (accepted_ready a) r;
        new_rows_pass = new_rows_pass (accepted_ready a) r;
        left = rw (← same.1) at g;
      }

  -- "larger accepted budgets give the same term and counts": w' is accepted as the same environment and store
  pub larger_budgets_same : {w' : Lent} {x : Answer} {l' : Left} → Accepted w' e s → w'.term ≡ w.term → AtLeast (limits_of w) (limits_of w') → w.nesting ≤ w'.nesting →
      Whnf w (term t k n) l → Whnf w' x l' → x ≡ term t k n
  larger_budgets_same {w'} a' one more deeper h h' =
      let holds = term_holds h in
      let r = larger_budgets more deeper holds.answered in
      call_answers a' (subst (λ (p : Ptr). Answered e (limits_of w') w'.nesting s p t k holds.store) (sym one) r) h' ∙ ap (term t k) holds.rows

-- "reduced again with the same budgets and as many free rows it answers itself", at no higher cost
pub record AnswersItself (t : Ptr) (k n : ℕ) (x : Answer) : Type 0 where
  pub steps : ℕ
  pub rows : ℕ
  pub answer : x ≡ term t steps rows
  pub no_more_steps : steps ≤ k
  pub no_more_rows : rows ≤ n

-- w' asks for t over the rows that the first call left, with its budgets and as many free rows
pub record AskedAgain (w w' : Lent) (e : Env) (s s₁ : Store) (t : Ptr) : Type 0 where
  pub accepted : Accepted w' e s₁
  pub term : w'.term ≡ t
  pub steps : w'.steps ≡ w.steps
  pub nesting : w'.nesting ≡ w.nesting
  pub free : (limits_of w').rows ≡ length s₁ + ((limits_of w).rows - length s)

pub answers_itself : {w w' : Lent} {e : Env} {s : Store} {t : Ptr} {k n : ℕ} {l l' : Left} {x : Answer} → Accepted w e s → (h : TermHolds w e s t k n l) →
    AskedAgain w w' e s h.store t → Whnf w' x l' → AnswersItself t k n x
unfolding room_again
answers_itself {w} {w'} {e} {s} {t} {k} a h q r =
    let g = call_again a h.answered.reduces h.answered.within in
    let s₁ = h.store in
    let there : Answered e (room_again (limits_of w) s s₁) w.nesting s₁ t t g.to.steps g.to.store = record { reduces = final g.stuck; within = g.within } in
    let limits : room_again (limits_of w) s s₁ ≡ limits_of w' = λ i. record { steps = sym q.steps i; rows = sym q.free i } in
    let here : Answered e (limits_of w') w'.nesting s₁ w'.term t g.to.steps g.to.store = rw (q.term, q.nesting, ← limits) there in
    record {
      steps = g.to.steps;
      rows = length g.to.store - length s₁;
      answer = call_answers q.accepted here r;
      no_more_steps = g.cost.steps;
      no_more_rows = let c = g.cost.rows in omega (arith, h.rows);
    }
