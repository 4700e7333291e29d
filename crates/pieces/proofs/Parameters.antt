-- One parameter of a constructor's type: the ways out of `parameter`.
-- Assumes what a member is given, the constructor's type and the structure's type in scope, and the count of its arguments.
use Prim.Native.Nat.{ℕ, zero, suc, ◌≤◌}
use native.Mathlib.Omega.{arith}
use mathlib.Core.Path.{◌≡◌, refl, sym, ap, ◌∙◌}
use mathlib.Core.List.{List, [], ◌∷◌}
use mathlib.Core.Option.{Option, none, some}
use lib.ListN.{length}
use Rattle.rules.specs.Rows as rules
use Rattle.rules.specs.Rows.{Store}
use Rattle.rules.specs.Declarations.{nth}
use Rattle.course.specs.Charged.{replace_in}
use Rattle.substitution.specs.Stores.{scope_good}
use Rattle.substitution.specs.Passing.{pass_formed}
use Rattle.safety.specs.Sane.{in_later}
use Rattle.ways.specs.Spines.{args_of, args_later}
use Rattle.inferring.specs.Asks.{Ask, opens, if_there}
use Rattle.inferring.specs.Eval.{run}
use Rattle.rows.specs.declared.Ptr.{Ptr}
use Rattle.rows.specs.Words.{ptr_of, whole}
use Rattle.replace.specs.Replaced.{height_of, PtrReady}
use Rattle.spine.specs.Walks.{Counted, Argument}
use Rattle.spine.proofs.ForCallers.{may_ask, argument_is, argument_scope}
use Rattle.state.specs.declared.Meter.{Meter}
use Rattle.state.specs.State.{Reduced}
use Rattle.typing.specs.Here.{Here, later, depth_at, store_at, limits_at, res_at, Scope, Ready, After}
use Rattle.typing.specs.Gives.{Outcome, gave, refused, Value, Gives, GivesPtr, InAt}
use Rattle.typing.specs.Pieces.{PiParts, PiIn, pi_ask}
use Rattle.typing.specs.Written.{Written}
use Rattle.typing.proofs.Places.{At, begins, goes_on, stops, piece_stops, piece_by_piece}
use Rattle.pieces.specs.declared.ReachedPi.{ReachedPi}
use Rattle.pieces.specs.Found.{parts_of}
use Rattle.pieces.specs.Leaves.{Walking, parameter_ask}
use Rattle.pieces.proofs.Bodies.{may_open, opened_gives}
use Rattle.std.specs.Prelude.{Err, Some}
use Rattle.rows.specs.declared.refusals.Refusal.TheVariants.{NoType}

-- ARGUMENTS, later and by position

module _ {h : Here} {w t : Ptr} {count : ℕ} (ready : Ready h) (walk : Walking h w t count) {sc : List ℕ} {m : Meter} (after : After h h.context sc m) where
  abbrev there : Here
  there = later h h.context sc m

  pub arguments_same : args_of (store_at there) (ptr_of t) ≡ args_of (store_at h) (ptr_of t)
  arguments_same =
      args_later (pass_formed ready.stand.sane.pass) (pass_formed after.ready.stand.sane.pass) after.more (scope_good walk.along)

  pub along_later : Scope there (ptr_of t)
  along_later = in_later after.more walk.along

  pub many_later : length (args_of (store_at there) (ptr_of t)) ≡ count
  many_later = ap length arguments_same ∙ walk.many

-- past the last there is none
past_arguments : (ys : List rules.Ptr) (i : ℕ) → length ys ≤ i → nth ys i ≡ none
unfolding nth
past_arguments [] i h = refl
past_arguments (a ∷ ys) zero h = absurd (omega arith)
past_arguments (a ∷ ys) (suc i) h = past_arguments ys i (omega arith)

-- ONE PARAMETER

module _ (n : ℕ) {h : Here} (ready : Ready h) {w t : Ptr} {count : ℕ} (walk : Walking h w t count) (i : ℕ) where
  abbrev ys : List rules.Ptr
  ys = args_of (store_at h) (ptr_of t)

  abbrev opening : (Store → rules.Ptr → Ask) → PiParts → Option rules.Ptr → Ask
  opening next a o = if_there o λ v. opens (some v) a.by 0 a.body next

  abbrev PiGives : Outcome PiParts → List ℕ → Type 0
  PiGives o sc = Gives (PiIn (depth_at h)) n h (pi_ask (ptr_of w)) o h.context sc

  begun : (next : Store → rules.Ptr → Ask) →
      At n h (res_at n h (parameter_ask (ptr_of w) ys i next)) h.context h.scratch h.meter (pi_ask (ptr_of w) (λ s a. opening next a (nth ys i)))
  unfolding parameter_ask pi_ask
  begun next = begins ready

  pub parameter_stopped : {k : ℕ} {sc : List ℕ} → PiGives (refused k) sc →
      Gives (InAt (depth_at h)) n h (parameter_ask (ptr_of w) ys i) (refused k) h.context sc
  parameter_stopped pi = piece_stops refl (λ next. stops pi (λ s a. opening next a (nth ys i)) (begun next) refl) pi.keeps

  -- the pi a was reached
  module _ {a : ReachedPi} {m : Meter} {sc : List ℕ} (pi : PiGives (gave (parts_of a) m) sc) where
    left : Value (PiIn (depth_at h)) h h.context sc (parts_of a) m
    left = pi.value (parts_of a) m refl

    abbrev h₁ : Here
    h₁ = later h h.context sc m

    at_pi : (next : Store → rules.Ptr → Ask) → At n h (res_at n h (parameter_ask (ptr_of w) ys i next)) h.context sc m (opening next (parts_of a) (nth ys i))
    at_pi next = goes_on pi (λ s b. opening next b (nth ys i)) (begun next) refl

    pub no_argument_left : count ≤ i → GivesPtr n h (parameter_ask (ptr_of w) ys i) (Err NoType) h.context sc
    unfolding run
    no_argument_left past =
        piece_stops refl
        (λ next. record {
          is =
              sym (ap (λ (o : Option rules.Ptr). res_at n h₁ (opening next (parts_of a) o)) (past_arguments ys i (omega (arith, past, walk.many))))
              ∙ (at_pi next).is;
          keeps = pi.keeps;
        })
        pi.keeps

    pub may_ask_argument : Counted h.library sc t count
    may_ask_argument =
        let r = left.after.ready in
        may_ask h.library sc m.mark h.given.nlib _ (depth_at h) r.stand.held r.stand.sane.pass t (along_later ready walk left.after) r.stand.small
        count (many_later ready walk left.after)

    module _ {v : Ptr} (answered : Argument (whole h.library sc) (ptr_of t) count i v) where
      argument_here : nth ys i ≡ some (ptr_of v)
      argument_here =
          let r = left.after.ready in
          ap (λ (xs : List rules.Ptr). nth xs i) (sym (arguments_same ready walk left.after))
          ∙ argument_is h.library sc m.mark h.given.nlib _ (depth_at h) r.stand.held r.stand.sane.pass t (along_later ready walk left.after) count i v
          (many_later ready walk left.after) answered

      argument_in : Scope h₁ (ptr_of v)
      argument_in =
          let r = left.after.ready in
          argument_scope h.library sc m.mark h.given.nlib _ (depth_at h) r.stand.held r.stand.sane.pass t (along_later ready walk left.after) count i v
          (many_later ready walk left.after) answered

      pub may_open_argument : PtrReady h.library sc h.given.nlib m.mark a.body 0 (record { value = Some v; by = a.by })
      may_open_argument = may_open left.after.ready left.fits.body left.fits.by argument_in

      pub parameter_opened : {r : Reduced} {sc₁ : List ℕ} →
          Written h.library sc m r sc₁ (replace_in (limits_at h₁).rows (some (ptr_of v)) a.by (height_of h.library sc m.mark a.body.row) 0
          (store_at h₁) (ptr_of a.body)) →
          GivesPtr n h (parameter_ask (ptr_of w) ys i) r h.context sc₁
      parameter_opened k =
          piece_by_piece
          (λ next. record {
            is = sym (ap (λ (o : Option rules.Ptr). res_at n h₁ (opening next (parts_of a) o)) argument_here) ∙ (at_pi next).is;
            after = left.after;
          })
          left.after
          (opened_gives n left.after.ready left.fits.body argument_in k)
