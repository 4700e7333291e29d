-- The ways out of arithmetic: not tried; refused in either operand's reduction; either is no number; the outcome fires.
-- Assumes what the member is given.
use Prim.Native.Nat.{ℕ}
use mathlib.Core.Path.{◌≡◌, sym, ap}
use mathlib.Core.List.{List, []}
use mathlib.Core.Option.{Option, none, some}
use Rattle.rules.specs.Rows as rules
use Rattle.rules.specs.RowCheck.{InScope}
use Rattle.rules.specs.Arithmetic.{Op, compute}
use Rattle.rules.specs.Declarations.{Decl, Env, decl_at}
use Rattle.rules.specs.Firings.{Result}
use Rattle.rules.specs.HeadTests.{operands_of, operands, as_number, outcome}
use Rattle.course.specs.Tries.{arithmetic}
use Rattle.course.specs.Eval.{Ans, try, side_at}
use Rattle.safety.specs.Sane.{in_later}
use Rattle.safety.specs.Parts.{outcome_in}
use Rattle.ways.specs.Steps.{step_of, fire_in}
use Rattle.ways.specs.Spines.{args_of}
use Rattle.ways.specs.Ways.{arith_none, arith_first_refused, arith_no_first, arith_second_refused, arith_no_second, arith_fires}
use Rattle.rows.specs.declared.Ptr.{Ptr}
use Rattle.rows.specs.Words.{ptr_of, store_of}
use Rattle.tables.specs.Env.{env_of}
use Rattle.state.specs.declared.Given.{Given}
use Rattle.state.specs.declared.Meter.{Meter}
use Rattle.state.specs.State.{Answer}
use Rattle.state.specs.State.{tally_of, limits_in, Left}
use Rattle.cycle.specs.Cycle.{Asked, Counted, Ran, res_by}
use Rattle.cycle.specs.Members.{computed}
use Rattle.cycle.specs.Course.{ended}
use Rattle.cycle.proofs.Standing.{to_depth, nothing_passed}
use Rattle.cycle.proofs.WaysOut.{refused_left, final_left, head_row, q_asked, t_counted, grown_store, side_ended, missed_after, fired_after}
use Rattle.cycle.proofs.WaysOut.{through, second_says}
use Rattle.std.specs.Prelude.{Err, Ok}
use Rattle.state.specs.declared.Tried.TheVariants.{Final}
use Rattle.rows.specs.declared.refusals.Refusal.{Refusal}

module _ {l ds rs cs sc : List ℕ} {g : Given} {m : Meter} {t : Ptr} {count : ℕ} (c : Counted l ds rs cs sc g m t count) (n d : ℕ) where
  abbrev e : Env
  e = env_of ds rs cs g.depth

  abbrev D : Decl
  D = decl_at e.decls d

  abbrev xs : List rules.Ptr
  xs = args_of (store_of l sc m.mark) (ptr_of t)

  -- the evaluator's own answer
  abbrev answer : Ans
  answer = try (limits_in g sc) (side_at e (limits_in g sc) n) (arithmetic e D xs) (tally_of l sc m)

  pub not_computed : operands e D xs ≡ none → Left l sc m (Ok (Final m)) sc (computed l ds rs cs sc g m t n d)
  not_computed q =
      final_left (nothing_passed sc m c.asked.stand.held.room) (sym (ap (step_of (limits_in g sc)) (arith_none e _ _ (tally_of l sc m) D xs q)))

  module _ {op : Op} {x y : Ptr} (two : operands e D xs ≡ some (operands_of op (ptr_of x) (ptr_of y)))
      (i : InScope (store_of l sc m.mark) g.depth (ptr_of x)) where
    pub first_stops : {sc₁ : List ℕ} {k : Refusal} → Ran l sc m (Err k) sc₁ (res_by l ds rs cs sc g m n (ptr_of x)) →
        Left l sc m (Err k) sc₁ (computed l ds rs cs sc g m t n d)
    first_stops r = refused_left r (sym (ap (step_of (limits_in g sc)) (arith_first_refused e _ _ (tally_of l sc m) D xs two (sym r.says))))

    module _ {sc₁ : List ℕ} {q : Ptr} {m₁ : Meter} (r : Ran l sc m (Ok (q, m₁)) sc₁ (res_by l ds rs cs sc g m n (ptr_of x))) where
      abbrev first_number : Option ℕ
      first_number = as_number (head_row (store_of l sc₁ m₁.mark) (ptr_of q)) (args_of (store_of l sc₁ m₁.mark) (ptr_of q))

      pub first_no_number : none ≡ first_number → Left l sc m (Ok (Final m₁)) sc₁ (computed l ds rs cs sc g m t n d)
      first_no_number h = missed_after c n i r (arith_no_first e _ _ D xs two (side_ended c n i r) (sym h))

      module _ {a : ℕ} (first : some a ≡ first_number) (j : InScope (store_of l sc m.mark) g.depth (ptr_of y)) where
        pub second_in_scope : InScope (store_of l sc₁ m₁.mark) g.depth (ptr_of y)
        second_in_scope = in_later (grown_store c n i r) j

        pub second_stops : {sc₂ : List ℕ} {k : Refusal} → Ran l sc₁ m₁ (Err k) sc₂ (res_by l ds rs cs sc₁ g m₁ n (ptr_of y)) →
            Left l sc m (Err k) sc₂ (computed l ds rs cs sc g m t n d)
        second_stops k =
            through c n i r answer
            (refused_left k (sym (ap (step_of (limits_in g sc₁)) (arith_second_refused e _ _ D xs two (side_ended c n i r) (sym first) (second_says c n i r y k)))))

        module _ {sc₂ : List ℕ} {q₂ : Ptr} {m₂ : Meter} (r₂ : Ran l sc₁ m₁ (Ok (q₂, m₂)) sc₂ (res_by l ds rs cs sc₁ g m₁ n (ptr_of y))) where
          abbrev second_number : Option ℕ
          second_number = as_number (head_row (store_of l sc₂ m₂.mark) (ptr_of q₂)) (args_of (store_of l sc₂ m₂.mark) (ptr_of q₂))

          there : Asked l ds rs cs sc₂ g m₂ q₂
          there = q_asked (t_counted c n i r) n second_in_scope r₂

          pub second_no_number : none ≡ second_number → Left l sc m (Ok (Final m₂)) sc₂ (computed l ds rs cs sc g m t n d)
          second_no_number h =
              through c n i r answer
              (missed_after (t_counted c n i r) n second_in_scope r₂
              (arith_no_second e _ _ D xs two (side_ended c n i r) (sym first) (ended there.stand.sane (to_depth there.stand there.scope) (second_says c n i r y r₂)) (sym h)))

          pub computes : {b : ℕ} {z : Result} {o : Answer} {sc₃ : List ℕ} → some b ≡ second_number → outcome e (compute op a b) ≡ some z →
              Left l sc₂ m₂ o sc₃ (fire_in (limits_in g sc₂) (tally_of l sc₂ m₂) z []) → Left l sc m o sc₃ (computed l ds rs cs sc g m t n d)
          computes {b} h q k =
              through c n i r answer
              (fired_after (t_counted c n i r) n second_in_scope r₂ (outcome_in e (compute op a b) q)
              (arith_fires e _ _ D xs two (side_ended c n i r) (sym first) (ended there.stand.sane (to_depth there.stand there.scope) (second_says c n i r y r₂)) (sym h) q) k)
