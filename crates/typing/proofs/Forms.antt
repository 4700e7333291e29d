-- Applications and lets: from place to place, and each way out. A module for each form; its parameters are what the pieces before have given.
-- Assumes what a member is given.
use Prim.Native.Nat.{ℕ, ◌≤◌, ◌<◌}
use mathlib.Core.Path.{◌≡◌}
use mathlib.Core.List.{List}
use mathlib.Core.Option.{none, some}
use Rattle.rules.specs.Rows as rules
use Rattle.rules.specs.Rows.{Store}
use Rattle.inferring.specs.Asks.{Ask, answers, infers, opens, application_type, let_type}
use Rattle.state.specs.declared.Meter.{Meter}
use Rattle.state.specs.State.{Reduced}
use Rattle.typing.specs.Here.{Here, later, depth_at, res_at, Ready}
use Rattle.typing.specs.Gives.{Outcome, gave, refused, outcome_of, Gives, InAt, Infers}
use Rattle.typing.specs.Pieces.{PiParts, PiIn, pi_ask}
use Rattle.typing.proofs.Places.{At, begins, goes_on, stops, form_stops, form_by_piece}
use Rattle.typing.proofs.Steps.{stepped, step_on_lem, no_step}
use Rattle.std.specs.Prelude.{Err}
use Rattle.rows.specs.declared.refusals.Refusal.TheVariants.{NoStep}
use Rattle.rows.specs.Refusals.{number_of}
use Rattle.rows.specs.declared.refusals.Refusal.{Refusal}

-- APPLICATION

module _ (n : ℕ) (h : Here) (ready : Ready h) (f a : rules.Ptr) where
  abbrev argued : Store → PiParts → Ask
  argued s q = opens (some a) q.by 0 q.body λ s₁ p. answers p

  at_function : At n h (res_at n h (application_type f a)) h.context h.scratch h.meter (infers none f λ s T. pi_ask T argued)
  unfolding application_type pi_ask
  at_function = begins ready

  module _ {In : Store → rules.Ptr → Type 0} {o : Outcome rules.Ptr} {cs sc : List ℕ} (part : Gives In n h (infers none f) o cs sc) where
    pub function_refused : {r : Reduced} {k : Refusal} → r ≡ Err k → o ≡ refused (number_of k) → Infers n h (application_type f a) r cs sc
    function_refused q e = form_stops q (stops part (λ s T. pi_ask T argued) at_function e)

    module _ {T : rules.Ptr} {m : Meter} (e : o ≡ gave T m) where
      at_function_type : At n h (res_at n h (application_type f a)) cs sc m (pi_ask T argued)
      at_function_type = goes_on part (λ s T. pi_ask T argued) at_function e

      module _ {o₁ : Outcome PiParts} {cs₁ sc₁ : List ℕ} (pi : Gives (PiIn (depth_at h)) n (later h cs sc m) (pi_ask T) o₁ cs₁ sc₁) where
        pub function_type_refused : {r : Reduced} {k : Refusal} → r ≡ Err k → o₁ ≡ refused (number_of k) → Infers n h (application_type f a) r cs₁ sc₁
        function_type_refused q e₁ = form_stops q (stops pi argued at_function_type e₁)

        pub application_answers : {q : PiParts} {m₁ : Meter} → o₁ ≡ gave q m₁ → {r : Reduced} {cs₂ sc₂ : List ℕ} →
            Gives (InAt (depth_at h)) n (later h cs₁ sc₁ m₁) (opens (some a) q.by 0 q.body) (outcome_of r) cs₂ sc₂ → Infers n h (application_type f a) r cs₂ sc₂
        application_answers e₁ last = form_by_piece (goes_on pi argued at_function_type e₁) last

-- LET

module _ (n : ℕ) (h : Here) (ready : Ready h) (v b : rules.Ptr) (k : ℕ) where
  pub no_step_for_let : h.given.steps ≤ h.meter.steps → {r : Reduced} → r ≡ Err NoStep → Infers n h (let_type v b k) r h.context h.scratch
  unfolding let_type
  no_step_for_let l q = form_stops q (no_step (begins ready) l)

  module _ (l : h.meter.steps < h.given.steps) where
    at_value : At n h (res_at n h (let_type v b k)) h.context h.scratch (stepped h.meter) (opens (some v) k 0 b λ s t. infers none t λ s₁ p. answers p)
    unfolding let_type
    at_value = step_on_lem (begins ready) l

    pub ready_stepped : Ready (later h h.context h.scratch (stepped h.meter))
    ready_stepped = at_value.after.ready

    module _ {In : Store → rules.Ptr → Type 0} {o : Outcome rules.Ptr} {cs sc : List ℕ}
        (replaced : Gives In n (later h h.context h.scratch (stepped h.meter)) (opens (some v) k 0 b) o cs sc) where
      pub value_refused : {r : Reduced} {j : Refusal} → r ≡ Err j → o ≡ refused (number_of j) → Infers n h (let_type v b k) r cs sc
      value_refused q e = form_stops q (stops replaced (λ s t. infers none t λ s₁ p. answers p) at_value e)

      pub let_answers : {t : rules.Ptr} {m : Meter} → o ≡ gave t m → {r : Reduced} {cs₁ sc₁ : List ℕ} →
          Gives (InAt (depth_at h)) n (later h cs sc m) (infers none t) (outcome_of r) cs₁ sc₁ → Infers n h (let_type v b k) r cs₁ sc₁
      let_answers e last = form_by_piece (goes_on replaced (λ s t. infers none t λ s₁ p. answers p) at_value e) last
