-- Lambdas and pis: from place to place, and each way out. A module for each form; its parameters are what the pieces before have given.
-- Assumes what a member is given.
use Prim.Native.Nat.{ℕ}
use mathlib.Core.Path.{◌≡◌}
use mathlib.Core.List.{List}
use mathlib.Core.Option.{none, some}
use Rattle.rules.specs.Kinds.{sort, pi}
use Rattle.rules.specs.Rows as rules
use Rattle.rules.specs.Rows.{Store, blank, node, leaf}
use Rattle.rules.specs.Inference.{imax}
use Rattle.inferring.specs.Asks.{Ask, answers, infers, writes, body_of, sort_of, lambda_type, pi_body, pi_type}
use Rattle.state.specs.declared.Meter.{Meter}
use Rattle.state.specs.State.{Reduced}
use Rattle.typing.specs.Here.{Here, later, depth_at, store_at, res_at, Ready}
use Rattle.typing.specs.Gives.{Outcome, gave, refused, outcome_of, Gives, InAt, Infers}
use Rattle.typing.specs.Pieces.{LevelIn}
use Rattle.typing.proofs.Places.{At, begins, goes_on, stops, form_stops, form_by_piece, form_by_form}
use Rattle.std.specs.Prelude.{Err}
use Rattle.rows.specs.Refusals.{number_of}
use Rattle.rows.specs.declared.refusals.Refusal.{Refusal}

-- LAMBDA

module _ (n : ℕ) (h : Here) (ready : Ready h) (X b : rules.Ptr) (k : ℕ) where
  abbrev pi_made : Store → rules.Ptr → Ask
  pi_made s B = writes (node pi X B blank) λ s₁ p. answers p

  abbrev typed : Store → rules.Ptr → Ask
  typed s b₁ = infers (some X) b₁ pi_made

  at_lambda : At n h (res_at n h (lambda_type (store_at h) X b k)) h.context h.scratch h.meter (body_of (store_at h) b k typed)
  unfolding lambda_type
  at_lambda = begins ready

  module _ {In : Store → rules.Ptr → Type 0} {o : Outcome rules.Ptr} {cs sc : List ℕ} (moved : Gives In n h (body_of (store_at h) b k) o cs sc) where
    pub lambda_body_refused : {r : Reduced} {j : Refusal} → r ≡ Err j → o ≡ refused (number_of j) → Infers n h (lambda_type (store_at h) X b k) r cs sc
    lambda_body_refused q e = form_stops q (stops moved typed at_lambda e)

    module _ {b₁ : rules.Ptr} {m : Meter} (e : o ≡ gave b₁ m) {In₁ : Store → rules.Ptr → Type 0} {o₁ : Outcome rules.Ptr} {cs₁ sc₁ : List ℕ}
        (under : Gives In₁ n (later h cs sc m) (infers (some X) b₁) o₁ cs₁ sc₁) where
      pub lambda_type_refused : {r : Reduced} {j : Refusal} → r ≡ Err j → o₁ ≡ refused (number_of j) → Infers n h (lambda_type (store_at h) X b k) r cs₁ sc₁
      lambda_type_refused q e₁ = form_stops q (stops under pi_made (goes_on moved typed at_lambda e) e₁)

      pub lambda_answers : {B : rules.Ptr} {m₁ : Meter} → o₁ ≡ gave B m₁ → {r : Reduced} {cs₂ sc₂ : List ℕ} →
          Gives (InAt (depth_at h)) n (later h cs₁ sc₁ m₁) (writes (node pi X B blank)) (outcome_of r) cs₂ sc₂ →
          Infers n h (lambda_type (store_at h) X b k) r cs₂ sc₂
      lambda_answers e₁ last = form_by_piece (goes_on under pi_made (goes_on moved typed at_lambda e) e₁) last

-- A PI'S BODY, when the sort of its type is u

module _ (n : ℕ) (h : Here) (ready : Ready h) (X b : rules.Ptr) (k u : ℕ) where
  abbrev sort_made : Store → ℕ → Ask
  sort_made s v = writes (leaf (sort (imax u v))) λ s₁ p. answers p

  abbrev sorted : Store → rules.Ptr → Ask
  sorted s B = sort_of (some X) B sort_made

  abbrev body_typed : Store → rules.Ptr → Ask
  body_typed s b₁ = infers (some X) b₁ sorted

  at_pi_body : At n h (res_at n h (pi_body (store_at h) X b k u)) h.context h.scratch h.meter (body_of (store_at h) b k body_typed)
  unfolding pi_body
  at_pi_body = begins ready

  module _ {In : Store → rules.Ptr → Type 0} {o : Outcome rules.Ptr} {cs sc : List ℕ} (moved : Gives In n h (body_of (store_at h) b k) o cs sc) where
    pub pi_body_refused : {r : Reduced} {j : Refusal} → r ≡ Err j → o ≡ refused (number_of j) → Infers n h (pi_body (store_at h) X b k u) r cs sc
    pi_body_refused q e = form_stops q (stops moved body_typed at_pi_body e)

    module _ {b₁ : rules.Ptr} {m : Meter} (e : o ≡ gave b₁ m) {In₁ : Store → rules.Ptr → Type 0} {o₁ : Outcome rules.Ptr} {cs₁ sc₁ : List ℕ}
        (under : Gives In₁ n (later h cs sc m) (infers (some X) b₁) o₁ cs₁ sc₁) where
      pub pi_body_type_refused : {r : Reduced} {j : Refusal} → r ≡ Err j → o₁ ≡ refused (number_of j) → Infers n h (pi_body (store_at h) X b k u) r cs₁ sc₁
      pi_body_type_refused q e₁ = form_stops q (stops under sorted (goes_on moved body_typed at_pi_body e) e₁)

      module _ {B : rules.Ptr} {m₁ : Meter} (e₁ : o₁ ≡ gave B m₁) {o₂ : Outcome ℕ} {cs₂ sc₂ : List ℕ}
          (level : Gives LevelIn n (later h cs₁ sc₁ m₁) (sort_of (some X) B) o₂ cs₂ sc₂) where
        at_level : At n h (res_at n h (pi_body (store_at h) X b k u)) cs₁ sc₁ m₁ (sort_of (some X) B sort_made)
        at_level = goes_on under sorted (goes_on moved body_typed at_pi_body e) e₁

        pub pi_body_sort_refused : {r : Reduced} {j : Refusal} → r ≡ Err j → o₂ ≡ refused (number_of j) → Infers n h (pi_body (store_at h) X b k u) r cs₂ sc₂
        pi_body_sort_refused q e₂ = form_stops q (stops level sort_made at_level e₂)

        pub pi_body_answers : {v : ℕ} {m₂ : Meter} → o₂ ≡ gave v m₂ → {r : Reduced} {cs₃ sc₃ : List ℕ} →
            Gives (InAt (depth_at h)) n (later h cs₂ sc₂ m₂) (writes (leaf (sort (imax u v)))) (outcome_of r) cs₃ sc₃ →
            Infers n h (pi_body (store_at h) X b k u) r cs₃ sc₃
        pi_body_answers e₂ last = form_by_piece (goes_on level sort_made at_level e₂) last

-- PI

module _ (n : ℕ) (h : Here) (ready : Ready h) (X b : rules.Ptr) (k : ℕ) where
  abbrev then_body : Store → ℕ → Ask
  then_body s u = pi_body s X b k u

  at_pi : At n h (res_at n h (pi_type X b k)) h.context h.scratch h.meter (infers none X λ s T. sort_of none T then_body)
  unfolding pi_type
  at_pi = begins ready

  module _ {In : Store → rules.Ptr → Type 0} {o : Outcome rules.Ptr} {cs sc : List ℕ} (part : Gives In n h (infers none X) o cs sc) where
    pub pi_type_refused : {r : Reduced} {j : Refusal} → r ≡ Err j → o ≡ refused (number_of j) → Infers n h (pi_type X b k) r cs sc
    pi_type_refused q e = form_stops q (stops part (λ s T. sort_of none T then_body) at_pi e)

    module _ {T : rules.Ptr} {m : Meter} (e : o ≡ gave T m) {o₁ : Outcome ℕ} {cs₁ sc₁ : List ℕ}
        (level : Gives LevelIn n (later h cs sc m) (sort_of none T) o₁ cs₁ sc₁) where
      at_pi_sort : At n h (res_at n h (pi_type X b k)) cs sc m (sort_of none T then_body)
      at_pi_sort = goes_on part (λ s T. sort_of none T then_body) at_pi e

      pub pi_sort_refused : {r : Reduced} {j : Refusal} → r ≡ Err j → o₁ ≡ refused (number_of j) → Infers n h (pi_type X b k) r cs₁ sc₁
      pi_sort_refused q e₁ = form_stops q (stops level then_body at_pi_sort e₁)

      pub pi_answers : {u : ℕ} {m₁ : Meter} → o₁ ≡ gave u m₁ → {r : Reduced} {cs₂ sc₂ : List ℕ} →
          Infers n (later h cs₁ sc₁ m₁) (pi_body (store_at (later h cs₁ sc₁ m₁)) X b k u) r cs₂ sc₂ → Infers n h (pi_type X b k) r cs₂ sc₂
      pi_answers e₁ last = form_by_form (goes_on level then_body at_pi_sort e₁) last
