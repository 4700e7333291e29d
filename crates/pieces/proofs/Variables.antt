-- The ways out of `infer_local`: no record, or the record's type shifted.
-- Assumes what a member is given, whatever the declarations and the rules are, and an index that does not wrap.
use Prim.Native.Nat.{ℕ, suc, ◌+◌, ◌-◌, ◌<◌}
use native.Mathlib.Omega.{arith}
use native.Mathlib.Numerals.{add-one}
use mathlib.Core.Path.{◌≡◌, sym, ap, ◌∙◌, subst}
use mathlib.Core.List.{List}
use mathlib.Core.Option.{Option, some}
use Rattle.rules.specs.Rows as rules
use Rattle.rules.specs.Rows.{up}
use Rattle.rules.specs.RowCheck.{InScope}
use Rattle.rules.specs.Inference.{type_of}
use Rattle.safety.specs.Scope.{value_in}
use Rattle.inferring.specs.Asks.{Ask, answers, if_there, variable_type}
use Rattle.rows.specs.declared.Ptr.{Ptr}
use Rattle.rows.specs.Words.{ptr_of, whole, Stands}
use Rattle.rows.proofs.Store.{held_length, used_stands, up_used}
use Rattle.records.specs.Read.{found_type, TypeOf}
use Rattle.state.specs.declared.Given.{Given}
use Rattle.state.specs.declared.Meter.{Meter}
use Rattle.cycle.proofs.Standing.{depth_is}
use Rattle.cycle.proofs.Shifts.{scope_shift}
use Rattle.typing.specs.Here.{Here, here, env_at, store_at, Scope, Ready}
use Rattle.pieces.specs.Leaves.{LocalReady, LocalType}
use Rattle.pieces.proofs.Forms.{no_type, a_type}
use Rattle.std.specs.Prelude.{Err, None, Ok, Option as Maybe, Some}
use Rattle.rows.specs.declared.refusals.Refusal.TheVariants.{NoType}

-- what is asked of a record's type
abbrev typed_by : Here → ℕ → Option rules.Ptr → Ask
typed_by h i o = if_there o λ y. answers (up (store_at h) y (suc i))

pub no_local : {l cs sc : List ℕ} {g : Given} {m : Meter} {i : ℕ} {x : Maybe Ptr} → TypeOf cs g.depth i (found_type x) → x ≡ None →
    LocalType l cs sc g m i (Err NoType)
unfolding variable_type
no_local {l} {cs} {sc} {g} {m} {i} types is = record {
  is = λ n ds rs ready. no_type ready (ap (typed_by (here l ds rs cs sc g m) i) (sym (types.type ds rs) ∙ ap found_type is));
}

module _ {l cs sc : List ℕ} {g : Given} {m : Meter} {i : ℕ} {x : Maybe Ptr} (types : TypeOf cs g.depth i (found_type x)) {ty : Ptr} (is : x ≡ Some ty) where
  module _ {ds rs : List ℕ} (ready : Ready (here l ds rs cs sc g m)) where
    abbrev h : Here
    h = here l ds rs cs sc g m

    type_there : type_of (env_at h) i ≡ some (ptr_of ty)
    type_there = sym (types.type ds rs) ∙ ap found_type is

    -- in scope where the record stands
    type_scope : InScope (store_at h) (g.depth - suc i) (ptr_of ty)
    type_scope =
        subst (λ (d : ℕ). InScope (store_at h) (d - suc i) (ptr_of ty)) (depth_is ds rs cs g.depth)
        (ready.typed.record_type i (ptr_of ty) type_there)

    row_there : ty.row < g.nlib + m.mark
    row_there = omega (arith, type_scope.there, held_length l sc m.mark g.nlib ready.stand.held)

  -- what the shift requires
  pub local_shifts : LocalReady l cs sc g m i → Stands l sc ty.row × (ty.shift + (i + 1) < 4294967296)
  local_shifts given =
      let ready = given.ready in (
        used_stands l sc m.mark g.nlib ready.stand.held ty.row (row_there ready),
        omega (arith, scope_shift (type_scope ready), ready.stand.small, given.index),
      )

  pub a_local : {shifted : Ptr} → ptr_of shifted ≡ up (whole l sc) (ptr_of ty) (i + 1) → LocalType l cs sc g m i (Ok (shifted, m))
  unfolding variable_type
  a_local {shifted} e = record {
    is = λ n ds rs ready.
        let moved : ptr_of shifted ≡ up (store_at (h ready)) (ptr_of ty) (suc i) =
        e
        ∙ ap (up (whole l sc) (ptr_of ty)) (add-one i)
        ∙ up_used l sc m.mark g.nlib ready.stand.held ty.row (row_there ready) ty.shift (suc i) in
        a_type ready (ap (typed_by (h ready) i) (type_there ready) ∙ ap answers (sym moved))
        (subst (Scope (h ready)) (sym moved) (value_in i (type_scope ready)));
  }
