-- The rules of a constant in order: each is tried in the rows that the missed one before it left. Whatever the rules are, the first that does not miss answers.
-- Assumes what the member is given.
use Prim.Native.Nat.{ℕ}
use mathlib.Core.Path.{◌≡◌, refl, sym, ap, ◌∙◌}
use mathlib.Core.List.{List}
use Rattle.rules.specs.Declarations.{Env}
use Rattle.rules.specs.Refusals.{Limits}
use Rattle.course.specs.Tries.{Try, ◌or_else◌}
use Rattle.course.specs.Eval.{Ans, missed, firing, refuse, gone, try, side_at}
use Rattle.substitution.specs.Stores.{scope_good}
use Rattle.substitution.specs.Passing.{pass_formed}
use Rattle.safety.specs.Sane.{depth_of, decl_count}
use Rattle.safety.specs.Safe.{Safe}
use Rattle.promises.specs.Else.{and_then, try_else}
use Rattle.ways.specs.Steps.{Step, stopped, step_of}
use Rattle.ways.specs.Spines.{args_of, args_later}
use Rattle.rows.specs.declared.Ptr.{Ptr}
use Rattle.rows.specs.Words.{ptr_of, store_of}
use Rattle.tables.specs.Env.{env_of}
use Rattle.state.specs.declared.Given.{Given}
use Rattle.state.specs.declared.Meter.{Meter}
use Rattle.state.specs.State.{Answer}
use Rattle.state.specs.State.{tally_of, limits_in, Left}
use Rattle.cycle.specs.Cycle.{Stand, Counted}
use Rattle.cycle.specs.Course.{step_missed, step_fired, step_stopped}
use Rattle.cycle.proofs.Standing.{left_on, left_passed, limits_on, counted_on, stand_after_miss, after_miss}
use Rattle.cycle.proofs.WaysOut.{left_as}
use Rattle.std.specs.Prelude.{Err, Ok}
use Rattle.state.specs.declared.Tried.TheVariants.{Term, Final}
use Rattle.rows.specs.Refusals.{number_of}
use Rattle.rows.specs.declared.refusals.Refusal.{Refusal}

-- a try over the words' store, in any environment
module _ (e : Env) (l : List ℕ) (g : Given) (n : ℕ) (sc : List ℕ) (m : Meter) where
  abbrev pub answer_to : Try → Ans
  answer_to y = try (limits_in g sc) (side_at e (limits_in g sc) n) y (tally_of l sc m)

  abbrev pub tried : Try → Step
  tried y = step_of (limits_in g sc) (answer_to y)

-- ONE TRY OR ELSE ANOTHER
module _ (e : Env) (l : List ℕ) (g : Given) (n : ℕ) (sc : List ℕ) (m : Meter) (y z : Try) where
  abbrev then_z : Ans → Step
  then_z a = step_of (limits_in g sc) (and_then a (λ m₁. try (limits_in g sc) (side_at e (limits_in g sc) n) z m₁))

  else_is : then_z (answer_to e l g n sc m y) ≡ tried e l g n sc m (y or_else z)
  else_is = ap (step_of (limits_in g sc)) (sym (try_else (limits_in g sc) _ y z (tally_of l sc m)))

  -- the first fires, and is the answer
  pub else_fires : {p : Ptr} {m₁ : Meter} {sc₁ : List ℕ} → Left l sc m (Ok (Term p m₁)) sc₁ (tried e l g n sc m y) →
      Left l sc m (Ok (Term p m₁)) sc₁ (tried e l g n sc m (y or_else z))
  else_fires k =
      let f = step_fired (limits_in g sc) (answer_to e l g n sc m y) (sym k.says) in
      left_as (ap (step_of (limits_in g sc)) f.answer ∙ sym (ap then_z f.answer) ∙ else_is) k

  -- the first is refused, and is the answer
  pub else_stops : {k : Refusal} {sc₁ : List ℕ} → Left l sc m (Err k) sc₁ (tried e l g n sc m y) → Left l sc m (Err k) sc₁ (tried e l g n sc m (y or_else z))
  else_stops {k} h = left_as (sym h.says ∙ sym (on (answer_to e l g n sc m y) (sym h.says)) ∙ else_is) h
    where
      on : (a : Ans) → step_of (limits_in g sc) a ≡ stopped (number_of k) → then_z a ≡ stopped (number_of k)
      on (missed m) q = absurd (step_stopped q)
      on (firing m r xs) q = q
      on (refuse j) q = q
      on gone q = q

  -- the first misses, and the second answers in the rows that it left
  pub else_passes : {m₁ : Meter} {sc₁ sc₂ : List ℕ} {b : Answer} → Left l sc m (Ok (Final m₁)) sc₁ (tried e l g n sc m y) →
      Left l sc₁ m₁ b sc₂ (tried e l g n sc₁ m₁ z) → Left l sc m b sc₂ (tried e l g n sc m (y or_else z))
  else_passes {m₁} {sc₁} h k =
      left_as
      (ap (λ (lim : Limits). step_of lim (try lim (side_at e lim n) z (tally_of l sc₁ m₁))) (limits_on g (left_passed h refl))
      ∙ sym (ap then_z (step_missed (limits_in g sc) (answer_to e l g n sc m y) (sym h.says)))
      ∙ else_is)
      (left_on (left_passed h refl) k)

-- AFTER A MISS: t has the arguments that it had, so the next rule is asked of the same spine
module _ {l ds rs cs sc : List ℕ} {g : Given} {m : Meter} {t : Ptr} {count : ℕ} (c : Counted l ds rs cs sc g m t count) (n : ℕ) {y : Try}
    (safe : Safe (decl_count (env_of ds rs cs g.depth)) (depth_of (env_of ds rs cs g.depth)) (store_of l sc m.mark) y) {sc₁ : List ℕ} {m₁ : Meter}
    (k : Left l sc m (Ok (Final m₁)) sc₁ (tried (env_of ds rs cs g.depth) l g n sc m y)) where
  abbrev stand : Stand l ds rs cs sc g m
  stand = c.asked.stand

  pub counted_after_miss : Counted l ds rs cs sc₁ g m₁ t count
  counted_after_miss = counted_on stand (stand_after_miss stand n safe k) (after_miss stand n safe k).more c

  pub arguments_after_miss : args_of (store_of l sc₁ m₁.mark) (ptr_of t) ≡ args_of (store_of l sc m.mark) (ptr_of t)
  arguments_after_miss =
      args_later (pass_formed stand.sane.pass) (pass_formed (stand_after_miss stand n safe k).sane.pass) (after_miss stand n safe k).more (scope_good c.asked.scope)
