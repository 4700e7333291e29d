-- What the members' proofs take from the evaluator, over stores alone: a side reduction's end, a firing paid row by row, and which answer of trying a step shows.
-- Assumes a sane store and pointers in scope where it says so.
use Prim.Native.Nat.{ℕ, zero, suc, ◌+◌, ◌≤◌, ◌<◌}
use Rattle.std.proofs.Common.{arith, sym, ap, ◌∙◌}
use Rattle.std.specs.Prelude.{◌≡◌, refl, List}
use Rattle.std.proofs.Math.Option.{Option}
use Rattle.rules.specs.Rows.{Ptr, Store, row_at}
use Rattle.rules.specs.RowCheck.{InScope}
use Rattle.rules.specs.Declarations.{Env}
use Rattle.rules.specs.Firings.{Tally, Result}
use Rattle.rules.specs.Refusals.{Limits}
use Rattle.course.specs.Eval.{Res, ok, no, lost, Ans, missed, firing, refuse, gone, Side, due_of, fire, at_the_head, go_on, next, loop}
use Rattle.substitution.specs.Stores.{scope_good}
use Rattle.substitution.specs.Passing.{pass_formed}
use Rattle.safety.specs.Sane.{depth_of, decl_count, Sane}
use Rattle.safety.specs.Scope.{none_in, SpineIn, spine_in, ResultIn, result_good}
use Rattle.safety.specs.NeverLost.{Found, found, due_found}
use Rattle.ways.specs.Steps.{Step, fired, final, stopped, adrift, paid_step, step_of, fire_in, fire_in_lem}
use Rattle.ways.specs.Spines.{head_of, args_of, spine_is, spine_of}
use Rattle.ways.specs.Ways.{Ended}

-- A SIDE REDUCTION'S END: the head and the arguments of its term
pub ended : {e : Env} {lim : Limits} {sd : Side} {m m₁ : Tally} {p q : Ptr} → Sane e m₁.store → InScope m₁.store (depth_of e) q → sd m p ≡ ok m₁ q →
    Ended e lim sd m p m₁ (row_at m₁.store (head_of m₁.store q).row) (args_of m₁.store q)
ended {q = q} sane i answer = let f = pass_formed sane.pass in record {
  to = q;
  spined = record { head = head_of _ q; arguments = args_of _ q };
  reduced = answer;
  spine_is = spine_is f (scope_good i) (spine_of f (scope_good i));
  row_is = refl;
  arguments_are = refl;
}

-- the head and the arguments are in scope
pub parts_in : {e : Env} {s : Store} {d : ℕ} {t : Ptr} → Sane e s → InScope s d t → SpineIn s d (head_of s t) (args_of s t)
parts_in sane i = spine_in sane.pass i none_in (spine_of (pass_formed sane.pass) (scope_good i))

-- A FIRING, paid row by row
pub fires_in : {e : Env} (lim : Limits) (m : Tally) (r : Result) (xs : List Ptr) → Sane e m.store → ResultIn (decl_count e) m.store (depth_of e) r →
    fire_in lim m r xs ≡ step_of lim (firing m r xs)
fires_in lim m r xs sane i = on refl (due_found xs (pass_formed sane.pass) (result_good i))
  where
    on : {o : Option _} → due_of m.store r xs ≡ o → Found o → fire_in lim m r xs ≡ step_of lim (firing m r xs)
    on q found = fire_in_lem lim m r xs q

-- WHICH ANSWER A STEP SHOWS

-- steps of different names are different
abbrev name_of : Step → ℕ
name_of (fired m t) = 0
name_of (final m) = 1
name_of (stopped k) = 2
name_of adrift = 3

paid_name : (lim : Limits) (o : Res) {m : Tally} → paid_step lim o ≡ final m → ⊥
paid_name lim (ok m t) q = omega (arith, ap name_of q)
paid_name lim (no k) q = omega (arith, ap name_of q)
paid_name lim lost q = omega (arith, ap name_of q)

-- final: trying missed
pub step_missed : (lim : Limits) (a : Ans) {m : Tally} → step_of lim a ≡ final m → a ≡ missed m
step_missed lim (missed m) q = cc
step_missed lim (firing m r xs) q = absurd (paid_name lim (fire lim m r xs) q)
step_missed lim (refuse k) q = absurd (omega (arith, ap name_of q))
step_missed lim gone q = absurd (omega (arith, ap name_of q))

-- fired: a firing was paid
pub record Fired (lim : Limits) (a : Ans) (m : Tally) (t : Ptr) : Type 0 where
  pub at : Tally
  pub result : Result
  pub arguments : List Ptr
  pub answer : a ≡ firing at result arguments
  pub paid : fire lim at result arguments ≡ ok m t

paid_ok : (lim : Limits) (o : Res) {m : Tally} {t : Ptr} → paid_step lim o ≡ fired m t → o ≡ ok m t
paid_ok lim (ok m t) q = cc
paid_ok lim (no k) q = absurd (omega (arith, ap name_of q))
paid_ok lim lost q = absurd (omega (arith, ap name_of q))

pub step_fired : (lim : Limits) (a : Ans) {m : Tally} {t : Ptr} → step_of lim a ≡ fired m t → Fired lim a m t
step_fired lim (missed m) q = absurd (omega (arith, ap name_of q))
step_fired lim (firing m r xs) q = record { at = m; result = r; arguments = xs; answer = refl; paid = paid_ok lim (fire lim m r xs) q }
step_fired lim (refuse k) q = absurd (omega (arith, ap name_of q))
step_fired lim gone q = absurd (omega (arith, ap name_of q))

-- what is final is not stopped
pub step_stopped : {m : Tally} {k : ℕ} → final m ≡ stopped k → ⊥
step_stopped q = omega (arith, ap name_of q)

-- stopped: trying or paying was refused, and so is the reduction
pub next_stopped : (lim : Limits) (again : Side) (t : Ptr) (a : Ans) {k : ℕ} → step_of lim a ≡ stopped k → next lim again t a ≡ no k
next_stopped lim again t (missed m) q = absurd (omega (arith, ap name_of q))
next_stopped lim again t (firing m r xs) q = on (fire lim m r xs) q
  where
    on : (o : Res) {k : ℕ} → paid_step lim o ≡ stopped k → go_on lim again o ≡ no k
    on (ok m t) q = absurd (omega (arith, ap name_of q))
    on (no k) q = cc
    on lost q = absurd (omega (arith, ap name_of q))
next_stopped lim again t (refuse k) q = cc
next_stopped lim again t gone q = absurd (omega (arith, ap name_of q))

pub next-final : (lim : Limits) (again : Side) (t : Ptr) (a : Ans) {m : Tally} → step_of lim a ≡ final m → next lim again t a ≡ ok m t
next-final lim again t a q = ap (next lim again t) (step_missed lim a q)

pub next_fired : (lim : Limits) (again : Side) (t : Ptr) (a : Ans) {m : Tally} {t' : Ptr} → step_of lim a ≡ fired m t' → next lim again t a ≡ again m t'
next_fired lim again t a q = let f = step_fired lim a q in ap (next lim again t) f.answer ∙ ap (go_on lim again) f.paid

-- THE LOOP OVER FIRINGS: with enough of the count left, one more head
module _ (e : Env) (lim : Limits) (sd : Side) where
  -- what remains to be run from m and t on comes to this answer
  pub record Remains (m : Tally) (t : Ptr) (res : Res) : Type 0 where
    pub count : ℕ
    pub enough : lim.steps < count + m.steps
    pub is : loop e lim sd count m t ≡ res

  -- one more head from there
  pub record Unrolled (m : Tally) (t : Ptr) (res : Res) : Type 0 where
    pub count : ℕ
    pub enough : lim.steps < suc (count + m.steps)
    pub is : next lim (λ m' t'. loop e lim sd count m' t') t (at_the_head lim e sd m t) ≡ res

  unroll : {m : Tally} {t : Ptr} {res : Res} → m.steps ≤ lim.steps → Remains m t res → Unrolled m t res
  unfolding loop
  unroll {m} {t} {res} within r = on r.count r.enough r.is
    where
      on : (f : ℕ) → lim.steps < f + m.steps → loop e lim sd f m t ≡ res → Unrolled m t res
      on zero h q = absurd (omega arith)
      on (suc f) h q = record { count = f; enough = omega arith; is = q }

  module _ {m : Tally} {t : Ptr} {res : Res} (within : m.steps ≤ lim.steps) (r : Remains m t res) where
    -- the loop's three ways on: to the next term, to the answer, to the refusal
    pub remains_fired : {m' : Tally} {t' : Ptr} → step_of lim (at_the_head lim e sd m t) ≡ fired m' t' → m.steps < m'.steps → Remains m' t' res
    remains_fired q more =
        let u = unroll within r in
        record { count = u.count; enough = let h = u.enough in omega arith; is = sym (next_fired lim _ t (at_the_head lim e sd m t) q) ∙ u.is }

    pub remains_final : {m' : Tally} → step_of lim (at_the_head lim e sd m t) ≡ final m' → ok m' t ≡ res
    remains_final q = let u = unroll within r in sym (next-final lim _ t (at_the_head lim e sd m t) q) ∙ u.is

    pub remains_stopped : {k : ℕ} → step_of lim (at_the_head lim e sd m t) ≡ stopped k → no k ≡ res
    remains_stopped q = let u = unroll within r in sym (next_stopped lim _ t (at_the_head lim e sd m t) q) ∙ u.is
