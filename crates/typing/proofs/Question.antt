-- "Is it a proposition": the question's ways out, and those of the condition on a field's type.
-- Assumes what a member is given.
use Prim.Native.Nat.{ℕ, zero, suc, ◌≤◌, ◌<◌}
use native.Mathlib.Omega.{arith}
use mathlib.Core.Path.{◌≡◌, refl}
use mathlib.Core.List.{List}
use mathlib.Core.Option.{none}
use Rattle.rules.specs.Rows as rules
use Rattle.rules.specs.Rows.{Store}
use Rattle.safety.specs.Sane.{in_later}
use Rattle.inferring.specs.Asks.{Ask, untyped, infers, if_true, is_zero, sort_of, question, allowed}
use Rattle.state.specs.declared.Meter.{Meter}
use Rattle.typing.specs.Here.{Here, later, depth_at, store_at, res_at, Scope, Ready}
use Rattle.typing.specs.Gives.{Outcome, gave, refused, Gives, InAt}
use Rattle.typing.specs.Pieces.{LevelIn, level_ask, allowed_ask}
use Rattle.typing.proofs.Places.{At, begins, goes_on, stops, nothing_keeps, keeps_then, piece_gives, piece_stops, piece_by_piece}
use Rattle.typing.proofs.Steps.{stepped, step_on_lem, no_step, no_type}

module _ (n : ℕ) (h : Here) (ready : Ready h) (p : rules.Ptr) where
  -- THE QUESTION

  pub no_step_for_question : h.given.steps ≤ h.meter.steps → Gives LevelIn n h (level_ask p) (refused 4) h.context h.scratch
  unfolding level_ask
  no_step_for_question l = piece_stops refl (λ next. no_step (begins ready) l) (nothing_keeps h)

  -- the step is taken
  abbrev pub asked : Here
  asked = later h h.context h.scratch (stepped h.meter)

  module _ (l : h.meter.steps < h.given.steps) where
    at_type : (next : Store → ℕ → Ask) →
        At n h (res_at n h (level_ask p next)) h.context h.scratch (stepped h.meter) (infers none p λ s T. sort_of none T next)
    unfolding level_ask
    at_type next = step_on_lem (begins ready) l

    pub ready_asked : Ready asked
    ready_asked = (at_type (λ s k. untyped)).after.ready

    module _ {In : Store → rules.Ptr → Type 0} {o : Outcome rules.Ptr} {cs sc : List ℕ} (part : Gives In n asked (infers none p) o cs sc) where
      pub question_refused : {k : ℕ} → o ≡ refused k → Gives LevelIn n h (level_ask p) (refused k) cs sc
      question_refused e =
          piece_stops refl (λ next. stops part (λ s T. sort_of none T next) (at_type next) e) (keeps_then (at_type (λ s k. untyped)).after part.keeps)

      pub question_answered : {T : rules.Ptr} {m : Meter} {r : Outcome ℕ} {cs₁ sc₁ : List ℕ} → o ≡ gave T m →
          Gives LevelIn n (later h cs sc m) (sort_of none T) r cs₁ sc₁ → Gives LevelIn n h (level_ask p) r cs₁ sc₁
      question_answered {T} {m} e sort =
          piece_by_piece (λ next. goes_on part (λ s T. sort_of none T next) (at_type next) e)
          (goes_on part (λ s T. sort_of none T (λ s k. untyped)) (at_type (λ s k. untyped)) e).after sort

  -- THE CONDITION

  abbrev s : Store
  s = store_at h

  pub no_condition_asked : (level : ℕ) → (level ≡ 0 → ⊥) → Scope h p →
      Gives (InAt (depth_at h)) n h (allowed_ask s p level) (gave p h.meter) h.context h.scratch
  unfolding allowed_ask allowed
  no_condition_asked zero f i = absurd (f refl)
  no_condition_asked (suc level) f i = piece_gives refl (λ next. begins ready) (begins {n = n} {y = untyped} ready).after i

  module _ {o : Outcome ℕ} {cs sc : List ℕ} (asks : Gives LevelIn n h (level_ask p) o cs sc) where
    at_answer : (next : Store → rules.Ptr → Ask) →
        At n h (res_at n h (allowed_ask s p zero next)) h.context h.scratch h.meter (level_ask p λ s₁ l. if_true (is_zero l) (next s₁ p))
    unfolding allowed_ask allowed question level_ask
    at_answer next = begins ready

    pub condition_refused : (level : ℕ) {k : ℕ} → level ≡ 0 → o ≡ refused k → Gives (InAt (depth_at h)) n h (allowed_ask s p level) (refused k) cs sc
    condition_refused zero q e = piece_stops refl (λ next. stops asks (λ s₁ l. if_true (is_zero l) (next s₁ p)) (at_answer next) e) asks.keeps
    condition_refused (suc level) q e = absurd (omega arith)

    pub not_a_proposition : (level l : ℕ) {m : Meter} → level ≡ 0 → o ≡ gave l m → (l ≡ 0 → ⊥) →
        Gives (InAt (depth_at h)) n h (allowed_ask s p level) (refused 9) cs sc
    not_a_proposition (suc level) l q e f = absurd (omega arith)
    not_a_proposition zero zero q e f = absurd (f refl)
    not_a_proposition zero (suc l) q e f =
        piece_stops refl (λ next. no_type (goes_on asks (λ s₁ l. if_true (is_zero l) (next s₁ p)) (at_answer next) e)) asks.keeps

    pub a_proposition : (level l : ℕ) {m : Meter} → level ≡ 0 → o ≡ gave l m → l ≡ 0 → Scope h p →
        Gives (InAt (depth_at h)) n h (allowed_ask s p level) (gave p m) cs sc
    a_proposition (suc level) l q e z i = absurd (omega arith)
    a_proposition zero (suc l) q e z i = absurd (omega arith)
    a_proposition zero zero {m} q e z i =
        let v = asks.value zero m e in
        piece_gives refl (λ next. goes_on asks (λ s₁ l. if_true (is_zero l) (next s₁ p)) (at_answer next) e) v.after (in_later v.after.more i)
