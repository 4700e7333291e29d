-- From the cycle's promise to the call's: accepted input is what `infer` is given, and what it answers is what the rules of inference say, with
-- the rows and the records that they leave. Assumes accepted input.
use Prim.Native.Nat.{ℕ, suc, ◌+◌, ◌*◌, ◌-◌, ◌/◌, ◌≤◌}
use mathlib.Core.Path.{◌≡◌, refl, sym, ap, ap₂, ◌∙◌}
use mathlib.Core.List.{List, ◌++◌}
use lib.ListN.{length, take, replicate}
use Rattle.rules.specs.Accepted.{Lent, Accepted}
use Rattle.rules.specs.Call as call
use Rattle.rules.specs.Call.{limits_of}
use Rattle.rules.specs.InferCall.{spare_records, Infer, refuses, answers}
use Rattle.inferring.specs.Asks.{asks}
use Rattle.inferring.specs.Eval.{type_at, infer_eval}
use Rattle.inferring.specs.Typed.{accepted_typed, accepted_infer_ready}
use Rattle.inferring.specs.Answers.{infer_answered, infer_refused}
use Rattle.rows.specs.declared.Ptr.{Ptr}
use Rattle.rows.specs.Words.{ptr_of}
use Rattle.tables.specs.Read.{HoldersOf}
use Rattle.tables.specs.Verdicts.{lent_of, env_in, store_in}
use Rattle.records.specs.Write.{cleared_from}
use Rattle.records.proofs.Zeros.{cleared_after}
use Rattle.state.specs.declared.Given.{Given}
use Rattle.state.specs.declared.Meter.{Meter}
use Rattle.state.specs.State.{Reduced, tally_of}
use Rattle.cycle.proofs.Accepting.{accepted_asked}
use Rattle.cycle.proofs.NewRows.{rows_counted, mark_moved, new_row_stands}
use Rattle.typing.specs.Here.{Here, here, env_at, store_at, Scope, Ready}
use Rattle.typing.specs.Gives.{outcome_of, res_by, Infers}
use Rattle.std.specs.Prelude.{Err, Ok}
use Rattle.rows.specs.Refusals.{number_of}
use Rattle.rows.specs.declared.refusals.Refusal.{Refusal}

module _ (l ds rs cs sc : List ℕ) (mark : ℕ) (p : Ptr) (nesting : ℕ) (g : Given) where
  abbrev lent : Lent
  lent = lent_of l ds rs cs g.depth sc mark p g.steps nesting

  -- no step is taken yet
  abbrev pub start : Here
  start = here l ds rs cs sc g (record { mark = mark; steps = 0 })

  module _ (a : Accepted lent (env_in lent) (store_in lent)) (h : HoldersOf ds g.holders) (rows : g.nlib ≡ length l / 9) where
    pub accepted_ready : Ready start
    accepted_ready = record {
      stand = (accepted_asked l ds rs cs sc mark p nesting g a h rows).0.stand;
      typed = accepted_typed a;
      few = a.sizes.context;
    }

    pub accepted_scope : Scope start (ptr_of p)
    accepted_scope = (accepted_asked l ds rs cs sc mark p nesting g a h rows).0.scope

    module _ {r : Reduced} {cs₁ sc₁ : List ℕ} (inferred : Infers nesting start (asks (env_at start) (store_at start) (ptr_of p)) r cs₁ sc₁) where
      -- the evaluator's answer, under the limits of the call
      evaluated : infer_eval (env_in lent) (limits_of lent) nesting (spare_records lent) (store_in lent) (ptr_of p) ≡ res_by l sc₁ (outcome_of r)
      unfolding infer_eval type_at
      evaluated =
          ap
          (λ (n : ℕ).
          type_at (record { steps = g.steps; rows = n + length sc / 9 }) (suc nesting) (env_in lent) (spare_records lent)
          (tally_of l sc start.meter) (ptr_of p))
          (sym rows)
          ∙ sym inferred.says

      -- the spare records are zero
      records_left : {cs₂ : List ℕ} → cs₂ ≡ cleared_from (5 * g.depth) cs₁ → cs₂ ≡ take (5 * g.depth) cs ++ replicate (length cs - 5 * g.depth) 0
      records_left z = let k = inferred.keeps.context in z ∙ cleared_after lent cs₁ k.records k.same_length

      pub refused_call : {k : Refusal} {sc₂ cs₂ : List ℕ} → r ≡ Err k → sc₂ ≡ take (9 * mark) sc₁ ++ replicate (length sc₁ - 9 * mark) 0 →
          cs₂ ≡ cleared_from (5 * g.depth) cs₁ →
          Infer lent (call.refused (number_of k) 0) (record { mark = mark; scratch = sc₂; context = cs₂ })
      refused_call is zeros clear =
          refuses a (infer_refused (accepted_infer_ready a) (evaluated ∙ ap (λ (x : Reduced). res_by l sc₁ (outcome_of x)) is))
          (record {
            mark = refl;
            scratch = zeros ∙ ap₂ (λ (xs : List ℕ) (n : ℕ). xs ++ replicate (n - 9 * mark) 0) inferred.keeps.kept inferred.keeps.same_length;
            context = records_left clear;
          })

      module _ {q : Ptr} {m₁ : Meter} (is : r ≡ Ok (q, m₁)) where
        pub mark_upward : mark ≤ m₁.mark
        mark_upward = (inferred.value (ptr_of q) m₁ (ap outcome_of is)).after.passed.grown.upward

        pub answered_call : {cs₂ : List ℕ} → cs₂ ≡ cleared_from (5 * g.depth) cs₁ →
            Infer lent (call.term (ptr_of q) m₁.steps (m₁.mark - mark)) (record { mark = m₁.mark; scratch = sc₁; context = cs₂ })
        answered_call clear =
            let after = (inferred.value (ptr_of q) m₁ (ap outcome_of is)).after in
            let held = accepted_ready.stand.held in
            let held₁ = after.ready.stand.held in
            let grown = after.passed.grown in
            answers a (infer_answered (accepted_infer_ready a) (evaluated ∙ ap (λ (x : Reduced). res_by l sc₁ (outcome_of x)) is))
            (rows_counted l sc sc₁ mark m₁.mark g.nlib held held₁ grown)
            (record {
              mark = mark_moved l sc sc₁ mark m₁.mark g.nlib held held₁ grown;
              kept = after.passed.kept;
              rows = new_row_stands l sc sc₁ mark m₁.mark g.nlib held held₁ grown;
              past = grown.past;
              context = records_left clear;
            })
