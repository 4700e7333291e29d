-- The ways out of the members that ask for one side reduction: refused in it, no rule after it, a firing after it. One lemma for each return of the code.
-- Assumes what a member is given.
use Prim.Native.Nat.{ℕ}
use mathlib.Core.Path.{◌≡◌, refl, sym, ap, ◌∙◌, subst}
use mathlib.Core.List.{List}
use Rattle.rules.specs.Rows as rules
use Rattle.rules.specs.Rows.{Row, Store, row_at}
use Rattle.rules.specs.RowCheck.{InScope}
use Rattle.rules.specs.Declarations.{Env}
use Rattle.rules.specs.Firings.{Result}
use Rattle.rules.specs.Refusals.{Limits}
use Rattle.course.specs.Eval.{Res, Ans, missed, firing, Side, side_at}
use Rattle.substitution.specs.Stores.{Ext, scope_good}
use Rattle.substitution.specs.Passing.{pass_formed}
use Rattle.safety.specs.Lists.{none_some}
use Rattle.safety.specs.Sane.{depth_of, decl_count}
use Rattle.safety.specs.Scope.{AllIn, ResultIn}
use Rattle.ways.specs.Steps.{Step, final, stopped, step_of, fire_in}
use Rattle.ways.specs.Spines.{head_of, args_of, args_later}
use Rattle.ways.specs.Ways.{Ended}
use Rattle.rows.specs.declared.Ptr.{Ptr}
use Rattle.rows.specs.Words.{ptr_of, store_of}
use Rattle.rows.specs.Writes.{Grown}
use Rattle.tables.specs.Env.{env_of}
use Rattle.state.specs.declared.Given.{Given}
use Rattle.state.specs.declared.Meter.{Meter}
use Rattle.state.specs.State.{Answer}
use Rattle.state.specs.State.{Reduced}
use Rattle.state.specs.State.{tally_of, limits_in, Left}
use Rattle.cycle.specs.Cycle.{Asked, Counted, Passed, Ran, res_as, res_by}
use Rattle.cycle.specs.Course.{ended, parts_in, fires_in}
use Rattle.cycle.proofs.Standing.{left_on, ran_passed, limits_on, counted_on, to_depth, Next, after_side}
use Rattle.std.specs.Prelude.{Err, Ok}
use Rattle.state.specs.declared.Tried.TheVariants.{Final}
use Rattle.rows.specs.Refusals.{number_of}
use Rattle.rows.specs.declared.refusals.Refusal.{Refusal}

-- WHATEVER THE RULE IS

-- a side reduction's refusal is the member's
pub refused_left : {l sc sc₁ : List ℕ} {m : Meter} {k : Refusal} {res : Res} {step : Step} → Ran l sc m (Err k) sc₁ res → stopped (number_of k) ≡ step → Left l sc m (Err k) sc₁ step
refused_left r q = record { says = q; kept = r.kept; same_length = r.same_length; grown = λ m' z. absurd (none_some z) }

-- no rule, in the rows that are left
pub final_left : {l sc sc₁ : List ℕ} {m m₁ : Meter} {step : Step} → Passed sc m sc₁ m₁ → final (tally_of l sc₁ m₁) ≡ step → Left l sc m (Ok (Final m₁)) sc₁ step
final_left {sc = sc} {sc₁} {m} {m₁} p q = record {
  says = q;
  kept = p.kept;
  same_length = p.same_length;
  grown = λ m' z. let same : m₁ ≡ m' = cc in subst (λ (o : Meter). Grown sc m.mark sc₁ o.mark) same p.grown;
}

pub left_as : {l sc sc₁ : List ℕ} {m : Meter} {r : Answer} {step step' : Step} → step ≡ step' → Left l sc m r sc₁ step → Left l sc m r sc₁ step'
left_as {l} {sc} {sc₁} {m} {r} q k = subst (Left l sc m r sc₁) q k

-- the row of a term's head
abbrev pub head_row : Store → rules.Ptr → Row
head_row s q = row_at s (head_of s q).row

-- A SIDE REDUCTION OF p CAME TO q, in rows sc₁ up to m₁; t is the term whose head is tried
module _ {l ds rs cs sc : List ℕ} {g : Given} {m : Meter} {t : Ptr} {count : ℕ} (c : Counted l ds rs cs sc g m t count) (n : ℕ)
    {p q : Ptr} (i : InScope (store_of l sc m.mark) g.depth (ptr_of p)) {sc₁ : List ℕ} {m₁ : Meter}
    (r : Ran l sc m (Ok (q, m₁)) sc₁ (res_by l ds rs cs sc g m n (ptr_of p))) where
  abbrev Here : Env
  Here = env_of ds rs cs g.depth

  abbrev lim : Limits
  lim = limits_in g sc

  abbrev sd : Side
  sd = side_at Here lim n

  passed : Passed sc m sc₁ m₁
  passed = ran_passed r refl

  next : Next c.asked.stand sc₁ m₁ q
  next = after_side c.asked.stand n i r

  -- what the code that goes on is given
  pub q_asked : Asked l ds rs cs sc₁ g m₁ q
  q_asked = next.asked

  pub t_counted : Counted l ds rs cs sc₁ g m₁ t count
  t_counted = counted_on c.asked.stand q_asked.stand next.more c

  pub grown_store : Ext (store_of l sc m.mark) (store_of l sc₁ m₁.mark)
  grown_store = next.more

  pub side_ended : Ended Here lim sd (tally_of l sc m) (ptr_of p) (tally_of l sc₁ m₁) (head_row (store_of l sc₁ m₁.mark) (ptr_of q)) (args_of (store_of l sc₁ m₁.mark) (ptr_of q))
  side_ended = ended q_asked.stand.sane (to_depth q_asked.stand q_asked.scope) (sym r.says)

  -- t has the arguments that it had
  pub same_arguments : args_of (store_of l sc₁ m₁.mark) (ptr_of t) ≡ args_of (store_of l sc m.mark) (ptr_of t)
  same_arguments =
      args_later (pass_formed c.asked.stand.sane.pass) (pass_formed q_asked.stand.sane.pass) next.more (scope_good c.asked.scope)

  pub major_arguments : AllIn (store_of l sc₁ m₁.mark) (depth_of Here) (args_of (store_of l sc₁ m₁.mark) (ptr_of q))
  major_arguments = (parts_in q_asked.stand.sane (to_depth q_asked.stand q_asked.scope)).arguments

  -- no rule after it
  pub missed_after : {a : Ans} → a ≡ missed (tally_of l sc₁ m₁) → Left l sc m (Ok (Final m₁)) sc₁ (step_of lim a)
  missed_after q = final_left passed (ap (step_of lim) (sym q))

  -- a firing after it
  pub fired_after : {a : Ans} {z : Result} {xs : List rules.Ptr} {o : Answer} {sc₂ : List ℕ} → ResultIn (decl_count Here) (store_of l sc₁ m₁.mark) (depth_of Here) z →
      a ≡ firing (tally_of l sc₁ m₁) z xs → Left l sc₁ m₁ o sc₂ (fire_in (limits_in g sc₁) (tally_of l sc₁ m₁) z xs) → Left l sc m o sc₂ (step_of lim a)
  fired_after {z = z} {xs} h q k =
      left_as
      (ap (λ (n : Limits). fire_in n (tally_of l sc₁ m₁) z xs) (limits_on g passed) ∙ fires_in lim (tally_of l sc₁ m₁) z xs q_asked.stand.sane h ∙ ap (step_of lim) (sym q))
      (left_on passed k)

  -- an answer from there on, when the evaluator's own is known
  pub through : (a : Ans) {o : Answer} {sc₂ : List ℕ} → Left l sc₁ m₁ o sc₂ (step_of (limits_in g sc₁) a) → Left l sc m o sc₂ (step_of lim a)
  through a k = left_as (ap (λ (n : Limits). step_of n a) (limits_on g passed)) (left_on passed k)

  -- a second side reduction, from the rows that the first left, under the limits of the start
  pub second_says : (y : Ptr) {o : Reduced} {sc₂ : List ℕ} → Ran l sc₁ m₁ o sc₂ (res_by l ds rs cs sc₁ g m₁ n (ptr_of y)) → sd (tally_of l sc₁ m₁) (ptr_of y) ≡ res_as o l sc₂
  second_says y k = ap (λ (z : Limits). side_at Here z n (tally_of l sc₁ m₁) (ptr_of y)) (sym (limits_on g passed)) ∙ sym k.says
