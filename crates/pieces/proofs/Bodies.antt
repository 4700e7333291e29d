-- Bodies opened, for callers: what a replacement into a binder's body requires, and that it is the rules' own opening; a body as it stands or moved.
-- Assumes what a member is given, a body under a binder that is in scope, and that the binder's shift is at most the depth.
use Prim.Native.Nat.{ℕ, zero, suc, ◌≤◌}
use native.Mathlib.Omega.{arith}
use mathlib.Core.Path.{◌≡◌, refl, sym, ap, ◌∙◌, subst}
use mathlib.Core.List.{List}
use mathlib.Core.Option.{none, some}
use Rattle.std.specs.Prelude.{Some}
use Rattle.rules.specs.Rows as rules
use Rattle.rules.specs.Rows.{Store}
use Rattle.course.specs.Charged.{replace_in}
use Rattle.substitution.specs.Stores.{scope_good}
use Rattle.substitution.specs.Passing.{pass_formed}
use Rattle.substitution.specs.Existence.{ValueGood, none_good, some_good}
use Rattle.safety.specs.Scope.{BodyIn}
use Rattle.inferring.specs.Asks.{Ask, opens, body_of}
use Rattle.inferring.specs.Scope.{opened_scope, moved_scope, standing_scope}
use Rattle.rows.specs.declared.Ptr.{Ptr}
use Rattle.rows.specs.Words.{ptr_of}
use Rattle.replace.specs.declared.Sub.{Sub}
use Rattle.replace.specs.Replaced.{value_of, shift_of, height_of, PtrReady}
use Rattle.cycle.proofs.Shifts.{scope_shift, body_shift}
use Rattle.state.specs.State.{Reduced}
use Rattle.typing.specs.Here.{Here, depth_at, store_at, limits_at, res_at, Scope, Ready}
use Rattle.typing.specs.Gives.{outcome_of, Gives, GivesPtr, InAt}
use Rattle.typing.specs.Written.{Written}
use Rattle.typing.proofs.Places.{nothing_after, piece_gives}
use Rattle.typing.proofs.Writing.{opening_gives}
use Rattle.pieces.specs.Leaves.{no_sub, BodyOf, as_it_stands, moved}

-- TO CALL

module _ {h : Here} (ready : Ready h) {b : Ptr} {by : ℕ} (body : BodyIn (store_at h) (depth_at h) by (ptr_of b)) (small : by ≤ depth_at h) where
  may_replace : (x : Sub) (c : ℕ) → x.by ≡ by → ValueGood (store_at h) (value_of x) → shift_of x.value ≤ 65536 → c ≤ 1 →
      PtrReady h.library h.scratch h.given.nlib h.meter.mark b c x
  may_replace x c moves good shift cutoff =
      let stand = ready.stand in
      let f = (stand.sane.pass.each b.row body.good.lower).fits.height in
      record {
        ready = record {
          sound = record { held = stand.held; words = stand.words; declarations = _; pass = stand.sane.pass };
          value = good;
          value_shift = shift;
          move = omega (arith, stand.small, small, moves);
        };
        good = body.good;
        near = omega (arith, f);
        shift = omega (arith, body_shift body, stand.small);
      }

  -- a value into a body
  pub may_open : {a : Ptr} → Scope h (ptr_of a) →
      PtrReady h.library h.scratch h.given.nlib h.meter.mark b 0 (record { value = Some a; by = by })
  may_open {a} scope =
      may_replace (record { value = Some a; by = by }) 0 refl (some_good (scope_good scope)) (omega (arith, scope_shift scope, ready.stand.small))
      (omega arith)

  -- a body under its binder's shift
  pub may_open_body : PtrReady h.library h.scratch h.given.nlib h.meter.mark b 1 (no_sub by)
  may_open_body = may_replace (no_sub by) 1 refl none_good (omega arith) (omega arith)

-- WHAT IS GIVEN

module _ (n : ℕ) {h : Here} (ready : Ready h) {b : Ptr} {by : ℕ} (body : BodyIn (store_at h) (depth_at h) by (ptr_of b)) {r : Reduced} {sc : List ℕ} where
  pub opened_gives : {a : Ptr} → Scope h (ptr_of a) →
      Written h.library h.scratch h.meter r sc (replace_in (limits_at h).rows (some (ptr_of a)) by
      (height_of h.library h.scratch h.meter.mark b.row) 0 (store_at h) (ptr_of b)) →
      GivesPtr n h (opens (some (ptr_of a)) by 0 (ptr_of b)) r h.context sc
  opened_gives {a} scope w =
      opening_gives n h ready (InAt (depth_at h)) (some (ptr_of a)) by 0 (ptr_of b) body.good (some_good (scope_good scope))
      (λ g q. opened_scope (pass_formed ready.stand.sane.pass) body scope q) w

  moved_gives : Written h.library h.scratch h.meter r sc (replace_in (limits_at h).rows none by
      (height_of h.library h.scratch h.meter.mark b.row) 1 (store_at h) (ptr_of b)) →
      Gives (InAt (suc (depth_at h))) n h (opens none by 1 (ptr_of b)) (outcome_of r) h.context sc
  moved_gives w =
      opening_gives n h ready (InAt (suc (depth_at h))) none by 1 (ptr_of b) body.good none_good
      (λ g q. moved_scope (pass_formed ready.stand.sane.pass) body q) w

-- whether the shift is 0
no_shift : (s : Store) (b : rules.Ptr) (by : ℕ) → by ≡ 0 → (next : Store → rules.Ptr → Ask) → body_of s b by next ≡ next s b
unfolding body_of
no_shift s b by e next = ap (λ (k : ℕ). body_of s b k next) e

a_shift : (s : Store) (b : rules.Ptr) (by : ℕ) → (by ≡ 0 → ⊥) → (next : Store → rules.Ptr → Ask) → body_of s b by next ≡ opens none by 1 b next
unfolding body_of
a_shift s b zero f next = absurd (f refl)
a_shift s b (suc k) f next = refl

-- `body_of` answered r
pub body_gives : (n : ℕ) {h : Here} → Ready h → {b : Ptr} {by : ℕ} → BodyIn (store_at h) (depth_at h) by (ptr_of b) → {r : Reduced} {sc : List ℕ} →
    BodyOf h.library h.scratch h.given h.meter b by r sc →
    Gives (InAt (suc (depth_at h))) n h (body_of (store_at h) (ptr_of b) by) (outcome_of r) h.context sc
body_gives n {h} ready {b} {by} body {r} {sc} (as_it_stands e is same) =
    subst (λ (xs : List ℕ). Gives (InAt (suc (depth_at h))) n h (body_of (store_at h) (ptr_of b) by) (outcome_of r) h.context xs) (sym same)
    (piece_gives (ap outcome_of is)
    (λ next. record { is = ap (res_at n h) (sym (no_shift (store_at h) (ptr_of b) by e next)); after = nothing_after ready })
    (nothing_after ready)
    (standing_scope (subst (λ (k : ℕ). BodyIn (store_at h) (depth_at h) k (ptr_of b)) e body)))
body_gives n {h} ready {b} {by} body {r} {sc} (moved f w) =
    let g = moved_gives n ready body w in
    record { says = λ next. ap (res_at n h) (a_shift (store_at h) (ptr_of b) by f next) ∙ g.says next; keeps = g.keeps; value = g.value }
