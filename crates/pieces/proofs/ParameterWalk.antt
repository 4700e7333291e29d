-- The walk through the parameters: the loop of `walk_parameters`, a turn at a time.
-- Assumes what a member is given, the constructor's type and the structure's type in scope, and the count of its arguments.
use Prim.Native.Nat.{ℕ, zero, suc, ◌+◌, ◌-◌, ◌≤◌, ◌<◌}
use native.Mathlib.Numerals.{add-one}
use native.Mathlib.Omega.{arith}
use mathlib.Core.Path.{◌≡◌, refl, sym, ap, ◌∙◌, subst}
use mathlib.Core.List.{List, [], ◌∷◌}
use mathlib.Core.Option.{Option, none, some}
use lib.ListN.{drop}
use Rattle.rules.specs.Rows as rules
use Rattle.rules.specs.Rows.{Store}
use Rattle.rules.specs.Declarations.{nth}
use Rattle.ways.specs.Spines.{args_of}
use Rattle.inferring.specs.Asks.{Ask, opens, pi_of, if_there, parameters}
use Rattle.rows.specs.declared.Ptr.{Ptr}
use Rattle.rows.specs.Words.{ptr_of}
use Rattle.state.specs.declared.Meter.{Meter}
use Rattle.typing.specs.Here.{Here, later, depth_at, store_at, res_at, Scope, Ready, After}
use Rattle.typing.specs.Gives.{Outcome, gave, refused, Gives, GivesPtr, InAt}
use Rattle.typing.proofs.Places.{At, begins, goes_on, stops, keeps_then, after_then, nothing_after, piece_gives, piece_stops}
use Rattle.pieces.specs.Leaves.{Walking, parameter_ask}
use Rattle.pieces.proofs.Parameters.{arguments_same, along_later, many_later}
use Rattle.std.specs.Prelude.{Ok}

-- no argument at i, or the one with which the list from i on begins
data ArgumentAt (ys : List rules.Ptr) (i : ℕ) : Type 0 where
  no_argument : nth ys i ≡ none → drop i ys ≡ [] → ArgumentAt ys i
  an_argument : (a : rules.Ptr) → nth ys i ≡ some a → drop i ys ≡ a ∷ drop (suc i) ys → ArgumentAt ys i

argument_at : (ys : List rules.Ptr) (i : ℕ) → ArgumentAt ys i
unfolding nth
argument_at [] zero = no_argument refl refl
argument_at [] (suc i) = no_argument refl refl
argument_at (a ∷ ys) zero = an_argument a refl refl
argument_at (a ∷ ys) (suc i) = on (argument_at ys i)
  where
    on : ArgumentAt ys i → ArgumentAt (a ∷ ys) (suc i)
    on (no_argument e d) = no_argument e d
    on (an_argument b e d) = an_argument b e d

-- the walk from parameter i on asks for that parameter, and goes on from there
turn : (k : ℕ) (ys : List rules.Ptr) (i : ℕ) (s : Store) (W : rules.Ptr) (next : Store → rules.Ptr → Ask) →
    parameters (suc k) (drop i ys) s W next ≡ parameter_ask W ys i (λ s₁ W₁. parameters k (drop (suc i) ys) s₁ W₁ next)
unfolding parameters parameter_ask
turn k ys i s W next = on (argument_at ys i)
  where
    asked : Option rules.Ptr → Ask
    asked o = pi_of W λ s₁ x b j. if_there o λ a. opens (some a) j 0 b λ s₂ W₁. parameters k (drop (suc i) ys) s₂ W₁ next

    on : ArgumentAt ys i → parameters (suc k) (drop i ys) s W next ≡ parameter_ask W ys i (λ s₁ W₁. parameters k (drop (suc i) ys) s₁ W₁ next)
    on (no_argument e d) = ap (λ (xs : List rules.Ptr). parameters (suc k) xs s W next) d ∙ sym (ap asked e)
    on (an_argument a e d) = ap (λ (xs : List rules.Ptr). parameters (suc k) xs s W next) d ∙ sym (ap asked e)

-- begun at w, the walk stands at `at` before parameter i
pub record WalkedTo (n : ℕ) (h : Here) (many : ℕ) (w t : Ptr) (sc : List ℕ) (at : Ptr) (m : Meter) (i : ℕ) : Type 0 where
  pub is : (next : Store → rules.Ptr → Ask) →
      At n h (res_at n h (parameters many (args_of (store_at h) (ptr_of t)) (store_at h) (ptr_of w) next)) h.context sc m
      (parameters (many - i) (drop i (args_of (store_at h) (ptr_of t))) (store_at (later h h.context sc m)) (ptr_of at) next)
  pub after : After h h.context sc m
  pub scope : Scope (later h h.context sc m) (ptr_of at)

module _ (n : ℕ) {h : Here} (ready : Ready h) (many : ℕ) {w t : Ptr} {count : ℕ} (walk : Walking h w t count) where
  abbrev ys : List rules.Ptr
  ys = args_of (store_at h) (ptr_of t)

  pub walk_begins : WalkedTo n h many w t h.scratch w h.meter 0
  walk_begins =
      let all_left : many ≡ many - 0 = omega arith in
      record {
        is = λ next.
            subst (λ (k : ℕ). At n h (res_at n h (parameters many ys (store_at h) (ptr_of w) next)) h.context h.scratch h.meter
            (parameters k ys (store_at h) (ptr_of w) next))
            all_left (begins ready);
        after = nothing_after ready;
        scope = walk.at;
      }

  module _ {sc : List ℕ} {at : Ptr} {m : Meter} {i : ℕ} (so_far : WalkedTo n h many w t sc at m i) where
    abbrev h₁ : Here
    h₁ = later h h.context sc m

    -- no parameter is left
    pub all_walked : many ≤ i → GivesPtr n h (parameters many ys (store_at h) (ptr_of w)) (Ok (at, m)) h.context sc
    unfolding parameters
    all_walked done =
        let none_left : many - i ≡ 0 = omega arith in
        piece_gives refl
        (λ next. record {
          is = sym (ap (λ (k : ℕ). res_at n h₁ (parameters k (drop i ys) (store_at h₁) (ptr_of at) next)) none_left) ∙ (so_far.is next).is;
          after = so_far.after;
        })
        so_far.after so_far.scope

    -- what the next parameter requires
    pub may_go_on : Walking h₁ at t count
    may_go_on = record { at = so_far.scope; along = along_later ready walk so_far.after; many = many_later ready walk so_far.after }

    -- `parameter` answered
    module _ (less : i < many) {o : Outcome rules.Ptr} {sc₁ : List ℕ}
        (answer : Gives (InAt (depth_at h)) n h₁ (parameter_ask (ptr_of at) (args_of (store_at h₁) (ptr_of t)) i) o h.context sc₁) where
      parameter_is : Gives (InAt (depth_at h)) n h₁ (parameter_ask (ptr_of at) ys i) o h.context sc₁
      parameter_is =
          subst (λ (xs : List rules.Ptr). Gives (InAt (depth_at h)) n h₁ (parameter_ask (ptr_of at) xs i) o h.context sc₁)
          (arguments_same ready walk so_far.after) answer

      abbrev rest : (Store → rules.Ptr → Ask) → Store → rules.Ptr → Ask
      rest next s W = parameters (many - suc i) (drop (suc i) ys) s W next

      at_turn : (next : Store → rules.Ptr → Ask) →
          At n h (res_at n h (parameters many ys (store_at h) (ptr_of w) next)) h.context sc m (parameter_ask (ptr_of at) ys i (rest next))
      at_turn next =
          let one_more : many - i ≡ suc (many - suc i) = omega arith in
          record {
            is =
                sym (ap (res_at n h₁)
                (ap (λ (k : ℕ). parameters k (drop i ys) (store_at h₁) (ptr_of at) next) one_more ∙ turn (many - suc i) ys i (store_at h₁) (ptr_of at) next))
                ∙ (so_far.is next).is;
            after = so_far.after;
          }

      pub turn_stopped : {k : ℕ} → o ≡ refused k → Gives (InAt (depth_at h)) n h (parameters many ys (store_at h) (ptr_of w)) (refused k) h.context sc₁
      turn_stopped is = piece_stops refl (λ next. stops parameter_is (rest next) (at_turn next) is) (keeps_then so_far.after parameter_is.keeps)

      pub turn_taken : {p : Ptr} {m₁ : Meter} → o ≡ gave (ptr_of p) m₁ → WalkedTo n h many w t sc₁ p m₁ (i + 1)
      turn_taken {p} {m₁} is =
          let v = parameter_is.value (ptr_of p) m₁ is in
          subst (WalkedTo n h many w t sc₁ p m₁) (sym (add-one i))
          (record {
            is = λ next. goes_on parameter_is (rest next) (at_turn next) is;
            after = after_then so_far.after v.after;
            scope = v.fits;
          })
