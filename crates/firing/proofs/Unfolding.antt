-- A context value and a definition's value: no rule, or a pointer to go on with.
-- Assumes nothing.
use Prim.Native.Nat.{ℕ, suc, ◌+◌, ◌*◌, ◌≤◌, ◌<◌}
use native.Mathlib.Nat.{le_refl}
use native.Mathlib.Numerals.{add-one}
use native.Mathlib.Omega.{arith}
use mathlib.Core.Path.{◌≡◌, refl, sym, ap, ◌∙◌, subst}
use mathlib.Core.Bool.{Bool, true, false}
use mathlib.Core.List.{List, []}
use mathlib.Core.Option.{Option, none, some}
use borrow.Author.Tests.{eq-eqb, ne_eqb}
use lib.Dec.{eqb}
use lib.ListN.{length}
use Rattle.rules.specs.Rows as rules
use Rattle.rules.specs.Rows.{Store, up, cell_at}
use Rattle.rules.specs.Declarations.{value_of}
use Rattle.rules.specs.Firings.{itself}
use Rattle.rules.specs.Refusals.{Limits}
use Rattle.ways.specs.Spines.{up_row}
use Rattle.ways.specs.Steps.{Step, final, fire_in}
use Rattle.rows.specs.declared.Ptr.{Ptr}
use Rattle.rows.specs.Words.{ite, ptr_of, store_of, whole, Stands, Held}
use Rattle.rows.specs.Writes.{Grown}
use Rattle.rows.proofs.Store.{used_stands, up_used}
use Rattle.tables.specs.declared.Decl.{Decl}
use Rattle.tables.specs.Env.{env_of}
use Rattle.tables.specs.Read.{found_value, value_given, ValueOf}
use Rattle.state.specs.declared.Meter.{Meter}
use Rattle.state.specs.State.{Answer}
use Rattle.state.specs.State.{tally_of, Left}
use Rattle.firing.proofs.Ends.{left_as}
use Rattle.firing.specs.Fires.{unfold_step, raised, context_value, HasContext, unfolds_to}
use Rattle.std.specs.Prelude.{None, Ok, Option as Maybe, Some}
use Rattle.state.specs.declared.Tried.TheVariants.{Final}

-- no rule: nothing is written
pub final_left : {l sc : List ℕ} {m : Meter} {step : Step} → 9 * m.mark ≤ length sc → final (tally_of l sc m) ≡ step → Left l sc m (Ok (Final m)) sc step
final_left {l} {sc} {m} room e = record {
  says = e;
  kept = refl;
  same_length = refl;
  grown = λ m' q. let z : m ≡ m' = cc in subst (λ (x : Meter). Grown sc m.mark sc x.mark) z (record { upward = le_refl _; room = room; past = refl; rows = λ i h l. absurd (omega arith) });
}

-- a value or none, and what the code answered
pub none_unfolds : {l sc : List ℕ} {m : Meter} (lim : Limits) (o : Option rules.Ptr) (xs : List rules.Ptr) → 9 * m.mark ≤ length sc → none ≡ o →
    Left l sc m (Ok (Final m)) sc (unfold_step lim (tally_of l sc m) o xs)
none_unfolds {l} {sc} {m} lim o xs room e = final_left room (ap (λ (x : Option rules.Ptr). unfold_step lim (tally_of l sc m) x xs) e)

pub it_unfolds : {l sc : List ℕ} {m : Meter} {r : Answer} {sc' : List ℕ} (lim : Limits) (o : Option rules.Ptr) (v : rules.Ptr) (xs : List rules.Ptr) → some v ≡ o →
    Left l sc m r sc' (fire_in lim (tally_of l sc m) (itself v) xs) → Left l sc m r sc' (unfold_step lim (tally_of l sc m) o xs)
it_unfolds {l} {sc} {m} lim o v xs e k = left_as (ap (λ (x : Option rules.Ptr). unfold_step lim (tally_of l sc m) x xs) e) k

-- A DEFINITION
module _ (d : Decl) (n : ℕ) where
  pub no_value : value_given d ≡ None → none ≡ unfolds_to d n
  no_value e = sym (ap (λ (v : Maybe Ptr). ite (eqb d.levels n) (found_value v) none) e ∙ either (eqb d.levels n))
    where
      either : (b : Bool) → ◌≡◌ {A = Option rules.Ptr} (ite b none none) none
      either true = refl
      either false = refl

  pub other_levels : (d.levels ≡ n → ⊥) → none ≡ unfolds_to d n
  other_levels h = sym (ap (λ (b : Bool). ite b (found_value (value_given d)) none) (ne_eqb d.levels n h))

  pub the_value : {v : Ptr} → value_given d ≡ Some v → d.levels ≡ n → some (ptr_of v) ≡ unfolds_to d n
  the_value e q = sym (ap (λ (b : Bool). ite b (found_value (value_given d)) none) (eq-eqb d.levels n q) ∙ ap found_value e)

-- A CONTEXT VALUE
module _ (cs : List ℕ) (depth i : ℕ) (r : (Maybe Ptr)) (found : ValueOf cs depth i (found_value r)) where
  pub no_context_value : (s : Store) → r ≡ None → none ≡ context_value cs depth s i
  no_context_value s e = ap (raised s (suc i)) (ap found_value (sym e) ∙ found.value [] [])

  module _ (v : Ptr) (e : r ≡ Some v) where
    is_value : value_of (env_of [] [] cs depth) i ≡ some (ptr_of v)
    is_value = sym (found.value [] []) ∙ ap found_value e

    module _ (l sc : List ℕ) (m nlib : ℕ) (held : Held l sc m nlib) (h : HasContext cs depth (nlib + m) i) where
      value_below : v.row < nlib + m
      value_below = h.there (ptr_of v) is_value

      pub may_shift : (Stands l sc v.row) × (v.shift + (i + 1) < 4294967296)
      may_shift =
          let a = h.near (ptr_of v) is_value in
          let b = h.index in
          (used_stands l sc m nlib held v.row value_below, omega arith)

      module _ (f : Ptr) (shifted : ptr_of f ≡ up (whole l sc) (ptr_of v) (i + 1)) where
        raised_is : ptr_of f ≡ up (store_of l sc m) (ptr_of v) (suc i)
        raised_is = shifted ∙ up_used l sc m nlib held v.row value_below v.shift (i + 1) ∙ ap (up (store_of l sc m) (ptr_of v)) (add-one i)

        pub raised_below : f.row < nlib + m
        raised_below =
            let q : f.row ≡ v.row = ap (λ (x : rules.Ptr). x.row) raised_is ∙ up_row (cell_at (store_of l sc m) v.row).bound (ptr_of v) (suc i) in
            rw q value_below

        pub the_context_value : some (ptr_of f) ≡ context_value cs depth (store_of l sc m) i
        the_context_value = ap some raised_is ∙ ap (raised (store_of l sc m) (suc i)) (sym is_value)
