-- The loop over firings: what holds at its head, and its three ways on: to a firing's term, to the answer, to the refusal.
-- Assumes what `whnf` is given.
use Prim.Native.Nat.{ℕ, suc, ◌-◌, ◌<◌}
use native.Mathlib.Omega.{arith}
use mathlib.Core.Path.{◌≡◌, refl, sym, ◌∙◌, subst}
use mathlib.Core.List.{List}
use lib.ListN.{length}
use Rattle.rules.specs.Declarations.{Env}
use Rattle.rules.specs.Refusals.{Limits}
use Rattle.course.specs.Eval.{Res, side_at}
use Rattle.safety.specs.Lists.{none_some}
use Rattle.rows.specs.declared.Ptr.{Ptr}
use Rattle.rows.specs.Words.{ptr_of}
use Rattle.rows.specs.Writes.{Grown}
use Rattle.tables.specs.Env.{env_of}
use Rattle.state.specs.declared.Given.{Given}
use Rattle.state.specs.declared.Meter.{Meter}
use Rattle.state.specs.State.{Answer}
use Rattle.state.specs.State.{tally_of, limits_in, Left}
use Rattle.cycle.specs.Cycle.{Asked, Passed, Ran, head_by, res_by}
use Rattle.cycle.specs.Course.{Remains, remains_fired, remains_final, remains_stopped}
use Rattle.cycle.proofs.Standing.{nothing_passed, left_on, passed_on, left_passed, limits_on, Next, after_fire, step_taken}
use Rattle.cycle.proofs.WaysOut.{left_as}
use Rattle.cycle.proofs.Heads.{head_safe, head_is, all_remains}
use Rattle.reduce.proofs.Answers.{left_when}
use Rattle.std.specs.Prelude.{Err, Ok}
use Rattle.state.specs.declared.Tried.TheVariants.{Term, Final}
use Rattle.rows.specs.declared.refusals.Refusal.{Refusal}

-- begun with sc₀, m₀ and t₀, the loop stands at sc, m and t: what remains from here on comes to the answer of the start
pub record Going (l ds rs cs : List ℕ) (g : Given) (n : ℕ) (sc₀ : List ℕ) (m₀ : Meter) (t₀ : Ptr) (sc : List ℕ) (m : Meter) (t : Ptr) : Type 0 where
  pub asked : Asked l ds rs cs sc g m t
  pub passed : Passed sc₀ m₀ sc m
  pub remains : Remains (env_of ds rs cs g.depth) (limits_in g sc) (side_at (env_of ds rs cs g.depth) (limits_in g sc) n) (tally_of l sc m) (ptr_of t)
      (res_by l ds rs cs sc₀ g m₀ (suc n) (ptr_of t₀))

pub going_begins : {l ds rs cs sc : List ℕ} {g : Given} {m : Meter} {t : Ptr} (n : ℕ) → Asked l ds rs cs sc g m t → Going l ds rs cs g n sc m t sc m t
going_begins {sc = sc} {m = m} n a = record { asked = a; passed = nothing_passed sc m a.stand.held.room; remains = all_remains a n }

module _ {l ds rs cs sc₀ sc : List ℕ} {g : Given} {n : ℕ} {m₀ m : Meter} {t₀ t : Ptr} (k : Going l ds rs cs g n sc₀ m₀ t₀ sc m t) where
  abbrev e : Env
  e = env_of ds rs cs g.depth

  abbrev lim : Limits
  lim = limits_in g sc

  -- the loop's own answer
  abbrev answer : Res
  answer = res_by l ds rs cs sc₀ g m₀ (suc n) (ptr_of t₀)

  -- WHAT THE RULES AT THE HEAD ANSWERED
  module _ {r : Answer} {sc₁ : List ℕ} (tried : Left l sc m r sc₁ (head_by l ds rs cs sc g m n (ptr_of t))) where
    -- a rule fired
    module _ {q : Ptr} {m₁ : Meter} (is : r ≡ Ok (Term q m₁)) where
      left : Left l sc m (Ok (Term q m₁)) sc₁ (head_by l ds rs cs sc g m n (ptr_of t))
      left = left_when is tried

      next : Next k.asked.stand sc₁ m₁ q
      next = after_fire k.asked.stand n (head_safe k.asked n) (left_as (head_is k.asked n) left)

      taken : m.steps < m₁.steps
      taken = step_taken k.asked.stand n (head_safe k.asked n) (left_as (head_is k.asked n) left)

      pub going_on : Going l ds rs cs g n sc₀ m₀ t₀ sc₁ m₁ q
      going_on = record {
        asked = next.asked;
        passed = passed_on k.passed (left_passed left refl);
        remains =
            subst (λ (z : Limits). Remains e z (side_at e z n) (tally_of l sc₁ m₁) (ptr_of q) answer) (sym (limits_on g (left_passed left refl)))
            (remains_fired e lim (side_at e lim n) k.asked.stand.metered k.remains (sym left.says) taken);
      }

      -- a step less is left
      pub fewer_left : g.steps - m₁.steps < g.steps - m.steps
      fewer_left = omega (arith, taken, next.asked.stand.metered)

    -- no rule: the term is the answer
    pub going_ends : {m₁ : Meter} → r ≡ Ok (Final m₁) → Ran l sc₀ m₀ (Ok (t, m₁)) sc₁ answer
    going_ends {m₁} is =
        let left = left_when is tried in
        let through = passed_on k.passed (left_passed left refl) in
        record {
          says = remains_final e lim (side_at e lim n) k.asked.stand.metered k.remains (sym left.says);
          kept = through.kept;
          same_length = through.same_length;
          grown = λ m' z. let same : m₁ ≡ m' = cc in subst (λ (o : Meter). Grown sc₀ m₀.mark sc₁ o.mark) same through.grown;
        }

    -- refused
    pub going_stops : {j : Refusal} → r ≡ Err j → Ran l sc₀ m₀ (Err j) sc₁ answer
    going_stops is =
        let left = left_when is tried in
        let through = left_on k.passed left in
        record {
          says = remains_stopped e lim (side_at e lim n) k.asked.stand.metered k.remains (sym left.says);
          kept = through.kept;
          same_length = through.same_length;
          grown = λ m' z. absurd (none_some z);
        }

    -- whatever it was, the scratch is as long as at the start
    pub going_length : length sc₁ ≡ length sc₀
    going_length = tried.same_length ∙ k.passed.same_length
