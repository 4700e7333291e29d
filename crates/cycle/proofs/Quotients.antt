-- The ways out of Quot.lift and Quot.ind: no such role or too few arguments, refused in the major's reduction, no Quot.mk, the function given the element.
-- Assumes what the member is given.
use Prim.Native.Nat.{ℕ, suc, ◌≤◌}
use native.Mathlib.Omega as O
use mathlib.Core.Path.{◌≡◌, refl, sym, ap, ◌∙◌}
use mathlib.Core.List.{List, ◌∷◌}
use mathlib.Core.Option.{Option, none, some}
use lib.ListN.{length, drop}
use Rattle.rules.specs.Rows as rules
use Rattle.rules.specs.RowCheck.{InScope}
use Rattle.rules.specs.Arithmetic.{Op, add, sub, mul, div, mod', beq, ble}
use Rattle.rules.specs.Declarations.{Role, no_role, nat, zero', succ', true', false', quot_mk, quot_lift, quot_ind, arith, Decl, nth, decl_at, role_code}
use Rattle.rules.specs.Firings.{itself}
use Rattle.rules.specs.HeadTests.{given, quot_parts_of, quot_position, quot_parts, quot_made}
use Rattle.course.specs.Eval.{firing}
use Rattle.safety.specs.Lists.{nth_inside}
use Rattle.safety.specs.Sane.{in_later}
use Rattle.safety.specs.Scope.{itself_in}
use Rattle.ways.specs.Steps.{step_of, fire_in}
use Rattle.ways.specs.Spines.{args_of}
use Rattle.ways.specs.Ways.{quot_none, quot_refused, quot_missed, quot_fires}
use Rattle.rows.specs.declared.Ptr.{Ptr}
use Rattle.rows.specs.Words.{ptr_of, store_of}
use Rattle.tables.specs.Env.{env_of}
use Rattle.state.specs.declared.Given.{Given}
use Rattle.state.specs.declared.Meter.{Meter}
use Rattle.state.specs.State.{Answer}
use Rattle.state.specs.State.{tally_of, limits_in, Left}
use Rattle.cycle.specs.Cycle.{Counted, Ran, res_by}
use Rattle.cycle.specs.Members.{quotient}
use Rattle.cycle.proofs.Standing.{to_depth, nothing_passed}
use Rattle.cycle.proofs.WaysOut.{refused_left, final_left, head_row, grown_store, side_ended, same_arguments}
use Rattle.cycle.proofs.WaysOut.{missed_after, fired_after}
use Rattle.std.specs.Prelude.{Err, Ok}
use Rattle.state.specs.declared.Tried.TheVariants.{Final}
use Rattle.rows.specs.declared.refusals.Refusal.{Refusal}

-- THE POSITION of the major, by the role's code
op_codes : (o : Op) → 9 ≤ role_code (arith o)
op_codes add = omega O.arith
op_codes sub = omega O.arith
op_codes mul = omega O.arith
op_codes div = omega O.arith
op_codes mod' = omega O.arith
op_codes beq = omega O.arith
op_codes ble = omega O.arith

pub at_five : (r : Role) → role_code r ≡ 7 → quot_position r ≡ some 5
at_five no_role q = absurd (omega O.arith)
at_five nat q = absurd (omega O.arith)
at_five zero' q = absurd (omega O.arith)
at_five succ' q = absurd (omega O.arith)
at_five true' q = absurd (omega O.arith)
at_five false' q = absurd (omega O.arith)
at_five quot_mk q = absurd (omega O.arith)
at_five quot_lift q = refl
at_five quot_ind q = absurd (omega O.arith)
at_five (arith o) q = absurd (omega (O.arith, op_codes o))

pub at_four : (r : Role) → role_code r ≡ 8 → quot_position r ≡ some 4
at_four no_role q = absurd (omega O.arith)
at_four nat q = absurd (omega O.arith)
at_four zero' q = absurd (omega O.arith)
at_four succ' q = absurd (omega O.arith)
at_four true' q = absurd (omega O.arith)
at_four false' q = absurd (omega O.arith)
at_four quot_mk q = absurd (omega O.arith)
at_four quot_lift q = absurd (omega O.arith)
at_four quot_ind q = refl
at_four (arith o) q = absurd (omega (O.arith, op_codes o))

pub nowhere : (r : Role) → (role_code r ≡ 7 → ⊥) → (role_code r ≡ 8 → ⊥) → quot_position r ≡ none
nowhere no_role h k = refl
nowhere nat h k = refl
nowhere zero' h k = refl
nowhere succ' h k = refl
nowhere true' h k = refl
nowhere false' h k = refl
nowhere quot_mk h k = refl
nowhere quot_lift h k = absurd (h refl)
nowhere quot_ind h k = absurd (k refl)
nowhere (arith o) h k = refl

-- THE PARTS
pub no_parts : (D : Decl) (xs : List rules.Ptr) → quot_position D.role ≡ none → quot_parts D xs ≡ none
unfolding quot_parts
no_parts D xs q = rw q

pub the_parts : (D : Decl) (xs : List rules.Ptr) {n : ℕ} {f x : rules.Ptr} → quot_position D.role ≡ some n → nth xs 3 ≡ some f → nth xs n ≡ some x →
    quot_parts D xs ≡ some (quot_parts_of f x (drop (suc n) xs))
unfolding quot_parts
the_parts D xs q a b = rw (q, a, b)

too_few : {A B : Type 0} (o : Option A) (next : A → Option B) → ((a : A) → o ≡ some a → next a ≡ none) → given o next ≡ none
too_few none next h = refl
too_few (some a) next h = h a refl

pub few_parts : (D : Decl) (xs : List rules.Ptr) {n : ℕ} → quot_position D.role ≡ some n → length xs ≤ n → quot_parts D xs ≡ none
unfolding quot_parts
few_parts D xs {n} q h =
    rw q (too_few (nth xs 3) _ λ f a. too_few (nth xs n) _ λ x b. absurd (omega (O.arith, nth_inside xs n b)))

-- THE WAYS OUT
module _ {l ds rs cs sc : List ℕ} {g : Given} {m : Meter} {t : Ptr} {count : ℕ} (c : Counted l ds rs cs sc g m t count) (n d : ℕ) where
  abbrev D : Decl
  D = decl_at (env_of ds rs cs g.depth).decls d

  abbrev xs : List rules.Ptr
  xs = args_of (store_of l sc m.mark) (ptr_of t)

  pub quot_misses : quot_parts D xs ≡ none → Left l sc m (Ok (Final m)) sc (quotient l ds rs cs sc g m t n d)
  quot_misses q =
      final_left (nothing_passed sc m c.asked.stand.held.room) (sym (ap (step_of (limits_in g sc)) (quot_none (env_of ds rs cs g.depth) _ _ (tally_of l sc m) D xs q)))

  module _ {f p : Ptr} (from : ℕ) (parts : quot_parts D xs ≡ some (quot_parts_of (ptr_of f) (ptr_of p) (drop from xs)))
      (i : InScope (store_of l sc m.mark) g.depth (ptr_of p)) where
    pub quot_stops : {sc₁ : List ℕ} {k : Refusal} → Ran l sc m (Err k) sc₁ (res_by l ds rs cs sc g m n (ptr_of p)) →
        Left l sc m (Err k) sc₁ (quotient l ds rs cs sc g m t n d)
    quot_stops r = refused_left r (sym (ap (step_of (limits_in g sc)) (quot_refused (env_of ds rs cs g.depth) _ _ (tally_of l sc m) D xs parts (sym r.says))))

    module _ {sc₁ : List ℕ} {q : Ptr} {m₁ : Meter} (r : Ran l sc m (Ok (q, m₁)) sc₁ (res_by l ds rs cs sc g m n (ptr_of p))) where
      abbrev s₁ : rules.Store
      s₁ = store_of l sc₁ m₁.mark

      abbrev element : Option rules.Ptr
      element = quot_made (env_of ds rs cs g.depth) (head_row s₁ (ptr_of q)) (args_of s₁ (ptr_of q))

      pub quot_ends : none ≡ element → Left l sc m (Ok (Final m₁)) sc₁ (quotient l ds rs cs sc g m t n d)
      quot_ends none_there = missed_after c n i r (quot_missed (env_of ds rs cs g.depth) _ _ D xs parts (side_ended c n i r) (sym none_there))

      pub quot_gives : {a : Ptr} {o : Answer} {sc₂ : List ℕ} → InScope (store_of l sc m.mark) g.depth (ptr_of f) → some (ptr_of a) ≡ element →
          Left l sc₁ m₁ o sc₂ (fire_in (limits_in g sc₁) (tally_of l sc₁ m₁) (itself (ptr_of f)) (ptr_of a ∷ drop from (args_of s₁ (ptr_of t)))) →
          Left l sc m o sc₂ (quotient l ds rs cs sc g m t n d)
      quot_gives {a} function there =
          fired_after c n i r (itself_in (in_later (grown_store c n i r) (to_depth c.asked.stand function)))
          (quot_fires (env_of ds rs cs g.depth) _ _ D xs parts (side_ended c n i r) (sym there)
          ∙ ap (λ (ys : List rules.Ptr). firing (tally_of l sc₁ m₁) (itself (ptr_of f)) (ptr_of a ∷ drop from ys)) (sym (same_arguments c n i r)))
