-- From the cycle's promise to the call's: what `reduce::whnf` answers on accepted input is what the rules say, and what it leaves is what they leave.
-- Assumes accepted input.
use Prim.Native.Nat.{ℕ, suc, ◌+◌, ◌*◌, ◌-◌, ◌/◌, ◌≤◌}
use mathlib.Core.Path.{◌≡◌, refl, sym, ap, ap₂, ◌∙◌, subst}
use mathlib.Core.List.{List, ◌++◌}
use lib.ListN.{length, replicate}
use Rattle.rules.specs.Accepted.{Lent, Accepted}
use Rattle.rules.specs.Call as call
use Rattle.rules.specs.Call.{limits_of, Whnf, refuses, answers}
use Rattle.course.specs.Eval.{side_at, eval}
use Rattle.safety.specs.Sane.{accepted_ready}
use Rattle.safety.specs.Answers.{eval_answered, eval_refused}
use Rattle.rows.specs.declared.Ptr.{Ptr}
use Rattle.rows.specs.Words.{ptr_of}
use Rattle.tables.specs.Read.{HoldersOf}
use Rattle.tables.specs.Verdicts.{lent_of, env_in, store_in}
use Rattle.state.specs.declared.Given.{Given}
use Rattle.state.specs.declared.Meter.{Meter}
use Rattle.state.specs.State.{Reduced}
use Rattle.state.specs.State.{tally_of}
use Rattle.cycle.specs.Cycle.{Asked, Ran, res_as, res_by}
use Rattle.cycle.proofs.Standing.{after_side}
use Rattle.cycle.proofs.Accepting.{accepted_asked}
use Rattle.cycle.proofs.NewRows.{rows_counted, mark_moved, new_row_stands}
use Rattle.reduce.proofs.Sides.{ran_as}
use Rattle.call.specs.Answers.{GivenBy, zeroed_from}
use Rattle.std.specs.Prelude.{Err, Ok}
use Rattle.rows.specs.Refusals.{number_of}
use Rattle.rows.specs.declared.refusals.Refusal.{Refusal}

-- WHAT IS ASKED, with the numbers where the cycle has them
module _ (l ds rs cs sc : List ℕ) (mark : ℕ) (p : Ptr) (nesting : ℕ) (g : Given) where
  abbrev lent : Lent
  lent = lent_of l ds rs cs g.depth sc mark p g.steps nesting

  abbrev start : Meter
  start = record { mark = mark; steps = 0 }

  module _ (a : Accepted lent (env_in lent) (store_in lent)) (h : HoldersOf ds g.holders) (rows : g.nlib ≡ length l / 9) where
    asked : Asked l ds rs cs sc g start p
    asked = (accepted_asked l ds rs cs sc mark p nesting g a h rows).0

    -- the evaluator's answer, under the limits of the call
    evaluated : {r : Reduced} {sc₁ : List ℕ} → Ran l sc start r sc₁ (res_by l ds rs cs sc g start (suc nesting) (ptr_of p)) →
        eval (env_in lent) (limits_of lent) nesting (store_in lent) (ptr_of p) ≡ res_as r l sc₁
    unfolding eval
    evaluated ran =
        ap (λ (n : ℕ). side_at (env_in lent) (record { steps = g.steps; rows = n + length sc / 9 }) (suc nesting) (tally_of l sc start) (ptr_of p)) (sym rows)
        ∙ sym ran.says

    -- REFUSED: the rows are given back
    refused : {k : Refusal} {sc₁ sc₂ : List ℕ} → Ran l sc start (Err k) sc₁ (res_by l ds rs cs sc g start (suc nesting) (ptr_of p)) → sc₂ ≡ zeroed_from (9 * mark) sc₁ →
        Whnf lent (call.refused (number_of k) 0) (record { mark = mark; scratch = sc₂; context = cs })
    refused ran zeros =
        refuses a (eval_refused (accepted_ready a) (evaluated ran))
        (record {
          mark = refl;
          scratch = zeros ∙ ap₂ (λ (xs : List ℕ) (n : ℕ). xs ++ replicate (n - 9 * mark) 0) ran.kept ran.same_length;
          context = refl;
        })

    -- A TERM: its rows stand past the old mark
    module _ {q : Ptr} {m₁ : Meter} {sc₁ : List ℕ} (ran : Ran l sc start (Ok (q, m₁)) sc₁ (res_by l ds rs cs sc g start (suc nesting) (ptr_of p))) where
      there : Asked l ds rs cs sc₁ g m₁ q
      there = (after_side asked.stand (suc nesting) asked.scope ran).asked

      pub upward : mark ≤ m₁.mark
      upward = (ran.grown m₁ refl).upward

      answered : Whnf lent (call.term (ptr_of q) m₁.steps (m₁.mark - mark)) (record { mark = m₁.mark; scratch = sc₁; context = cs })
      answered =
          let held = there.stand.held in
          answers a (eval_answered (accepted_ready a) (evaluated ran))
          (rows_counted l sc sc₁ mark m₁.mark g.nlib asked.stand.held held (ran.grown m₁ refl))
          (record {
            mark = mark_moved l sc sc₁ mark m₁.mark g.nlib asked.stand.held held (ran.grown m₁ refl);
            kept = ran.kept;
            rows = new_row_stands l sc sc₁ mark m₁.mark g.nlib asked.stand.held held (ran.grown m₁ refl);
            past = (ran.grown m₁ refl).past;
            context = refl;
          })

-- WHAT IS LENT, with the numbers where the caller has them
module _ {l ds rs cs sc : List ℕ} {depth mark : ℕ} {p : Ptr} {steps nesting : ℕ} {g : Given}
    (a : Accepted (lent_of l ds rs cs depth sc mark p steps nesting) (env_in (lent_of l ds rs cs depth sc mark p steps nesting)) (store_in (lent_of l ds rs cs depth sc mark p steps nesting)))
    (by : GivenBy l ds depth steps g) where
  -- a call's words by depth and steps
  abbrev words : ℕ → ℕ → Lent
  words d n = lent_of l ds rs cs d sc mark p n nesting

  accepted_given : Accepted (words g.depth g.steps) (env_in (words g.depth g.steps)) (store_in (words g.depth g.steps))
  accepted_given =
      subst (λ (d : ℕ). Accepted (words d g.steps) (env_in (words d g.steps)) (store_in (words d g.steps))) (sym by.deep)
      (subst (λ (n : ℕ). Accepted (words depth n) (env_in (words depth n)) (store_in (words depth n))) (sym by.budget) a)

  given_back : {r : call.Answer} {left : call.Left} → Whnf (words g.depth g.steps) r left → Whnf (words depth steps) r left
  given_back {r} {left} k =
      subst (λ (n : ℕ). Whnf (words depth n) r left) by.budget (subst (λ (d : ℕ). Whnf (words d g.steps) r left) by.deep k)

  pub may_reduce : Asked l ds rs cs sc g (record { mark = mark; steps = 0 }) p
  may_reduce = asked l ds rs cs sc mark p nesting g accepted_given by.holders by.rows

  module _ {r : Reduced} {sc₁ : List ℕ} (ran : Ran l sc (record { mark = mark; steps = 0 }) r sc₁ (res_by l ds rs cs sc g (record { mark = mark; steps = 0 }) (suc nesting) (ptr_of p))) where
    pub mark_moves : {q : Ptr} {m₁ : Meter} → r ≡ Ok (q, m₁) → mark ≤ m₁.mark
    mark_moves is = upward l ds rs cs sc mark p nesting g accepted_given by.holders by.rows (ran_as is ran)

    pub to_term : {q : Ptr} {m₁ : Meter} → r ≡ Ok (q, m₁) →
        Whnf (words depth steps) (call.term (ptr_of q) m₁.steps (m₁.mark - mark)) (record { mark = m₁.mark; scratch = sc₁; context = cs })
    to_term is = given_back (answered l ds rs cs sc mark p nesting g accepted_given by.holders by.rows (ran_as is ran))

    pub to_refusal : {k : Refusal} {sc₂ : List ℕ} → r ≡ Err k → sc₂ ≡ zeroed_from (9 * mark) sc₁ →
        Whnf (words depth steps) (call.refused (number_of k) 0) (record { mark = mark; scratch = sc₂; context = cs })
    to_refusal is zeros = given_back (refused l ds rs cs sc mark p nesting g accepted_given by.holders by.rows (ran_as is ran) zeros)
