-- Asks that no piece answers: a step, a part with no level left, a test; and a part, from the inference one level deeper.
-- Assumes what a member is given.
use Prim.Native.Nat.{ℕ, zero, suc, ◌≤◌, ◌<◌}
use native.Mathlib.Omega.{arith}
use mathlib.Core.Path.{◌≡◌, refl, sym, ap, ◌∙◌, subst}
use mathlib.Core.List.{List}
use mathlib.Core.Option.{none}
use Rattle.rules.specs.Rows as rules
use Rattle.rules.specs.Rows.{Store}
use Rattle.course.specs.Views.{Cmp, up_to, over, cmp}
use Rattle.course.specs.Eval.{Res, no}
use Rattle.inferring.specs.Asks.{Ask, step_then, infers, untyped, asks}
use Rattle.inferring.specs.Eval.{run, step_on, type_at}
use Rattle.state.specs.declared.Meter.{Meter}
use Rattle.state.specs.State.{Reduced}
use Rattle.typing.specs.Here.{Here, later, depth_at, env_at, store_at, res_at, Ready, After}
use Rattle.typing.specs.Gives.{refused, outcome_of, GivesPtr, InAt, Infers}
use Rattle.typing.proofs.Places.{At, Stopped, after_then, after_keeps, nothing_after, nothing_keeps, gave_apart}
use Rattle.typing.proofs.Reducing.{answer_gives, infers_is}
use Rattle.std.specs.Prelude.{Err}
use Rattle.rows.specs.declared.refusals.Refusal.TheVariants.{NoLevel}

-- A STEP

-- one step more
abbrev pub stepped : Meter → Meter
stepped m = record { mark = m.mark; steps = suc m.steps }

step_left : {a b : ℕ} (x : Res) (c : Cmp a b) → b < a → step_on c x ≡ x
step_left x (up_to h) l = absurd (omega arith)
step_left x (over h) l = refl

step_gone : {a b : ℕ} (x : Res) (c : Cmp a b) → a ≤ b → step_on c x ≡ no 4
step_gone x (up_to h) l = refl
step_gone x (over h) l = absurd (omega arith)

-- rows and records stand as they are
step_after : {h : Here} → Ready h → h.meter.steps < h.given.steps → After h h.context h.scratch (stepped h.meter)
step_after {h} r l =
    let n = nothing_after r in
    record {
      ready = record {
        stand = record {
          held = r.stand.held;
          words = r.stand.words;
          sane = r.stand.sane;
          tabled = r.stand.tabled;
          small = r.stand.small;
          metered = l;
          budget = r.stand.budget;
        };
        typed = r.typed;
        few = r.few;
      };
      passed = record { kept = refl; same_length = refl; grown = n.passed.grown };
      context = n.context;
      more = n.more;
    }

module _ {n : ℕ} {h : Here} {res : Res} {cs sc : List ℕ} {m : Meter} {y : Ask} (at : At n h res cs sc m (step_then y)) where
  pub step_on_lem : m.steps < h.given.steps → At n h res cs sc (stepped m) y
  unfolding run
  step_on_lem l = record {
    is = sym (step_left (res_at n (later h cs sc (stepped m)) y) (cmp h.given.steps m.steps) l) ∙ at.is;
    after = after_then at.after (step_after at.after.ready l);
  }

  pub no_step : h.given.steps ≤ m.steps → Stopped h res 4 cs sc
  unfolding run
  no_step l = record {
    is = sym (step_gone (res_at n (later h cs sc (stepped m)) y) (cmp h.given.steps m.steps) l) ∙ at.is;
    keeps = after_keeps at.after;
  }

-- NO TYPE

pub no_type : {n : ℕ} {h : Here} {res : Res} {cs sc : List ℕ} {m : Meter} → At n h res cs sc m untyped → Stopped h res 9 cs sc
unfolding run
no_type at = record { is = at.is; keeps = after_keeps at.after }

-- what is asked may be written in another way
pub at_as : {n : ℕ} {h : Here} {res : Res} {cs sc : List ℕ} {m : Meter} {y y₁ : Ask} → y ≡ y₁ → At n h res cs sc m y → At n h res cs sc m y₁
at_as {n} {h} {res} {cs} {sc} {m} e at = subst (At n h res cs sc m) e at

-- A PART

-- no level is left
pub part_too_deep : (n : ℕ) (h : Here) (t : rules.Ptr) → n ≡ 0 → GivesPtr n h (infers none t) (Err NoLevel) h.context h.scratch
unfolding type_at
part_too_deep zero h t q =
    answer_gives zero h (InAt (depth_at h)) (infers none t) _ (infers_is zero h t) (refused 6) refl (nothing_keeps h) (λ p m e. absurd (gave_apart e))
part_too_deep (suc n) h t q = absurd (omega arith)

-- one level less
pub part_gives : (n k : ℕ) (h : Here) (t : rules.Ptr) {r : Reduced} {cs sc : List ℕ} → n ≡ suc k → Infers k h (asks (env_at h) (store_at h) t) r cs sc →
    GivesPtr n h (infers none t) r cs sc
unfolding type_at
part_gives zero k h t q i = absurd (omega arith)
part_gives (suc n) k h t {r} {cs} {sc} q i =
    let same : n ≡ k = omega arith in
    answer_gives (suc n) h (InAt (depth_at h)) (infers none t) _ (infers_is (suc n) h t) (outcome_of r)
    (i.says ∙ ap (λ (j : ℕ). res_at j h (asks (env_at h) (store_at h) t)) (sym same)) i.keeps i.value
