-- Values that a rule unfolds stand in the rows in use: a context value, a declaration's value, a recursor's rule values.
-- Assumes what the member is given.
use Prim.Native.Nat.{ℕ, suc, ◌+◌, ◌-◌, ◌/◌, ◌<◌}
use native.Mathlib.Omega.{arith}
use mathlib.Core.Path.{◌≡◌, refl}
use Rattle.std.specs.Prelude.{Option as Maybe, Some, None, IfSome}
use mathlib.Core.List.{List, []}
use mathlib.Core.Option.{some}
use lib.ListN.{length}
use Rattle.rules.specs.Rows as rules
use Rattle.rules.specs.Rows.{var, cell, row_at}
use Rattle.rules.specs.RowCheck.{InScope}
use Rattle.rules.specs.Accepted.{part}
use Rattle.rules.specs.Declarations.{value_of}
use Rattle.safety.specs.Sane.{depth_of}
use Rattle.ways.specs.Spines.{head_of}
use Rattle.rows.specs.declared.Ptr.{Ptr}
use Rattle.rows.specs.Words.{ptr_of, store_of}
use Rattle.rows.proofs.Store.{held_length}
use Rattle.tables.specs.Env.{env_of}
use Rattle.tables.specs.Read.{decl_read, value_given}
use Rattle.tables.specs.ReadLaws.{valued_is}
use Rattle.state.specs.declared.Given.{Given}
use Rattle.state.specs.declared.Meter.{Meter}
use Rattle.firing.specs.Fires.{HasContext}
use Rattle.cycle.specs.Cycle.{Stand, Asked}
use Rattle.cycle.proofs.Standing.{depth_is}
use Rattle.cycle.proofs.Binders.{head_row_in}
use Rattle.cycle.proofs.Shifts.{scope_shift}

module _ {l ds rs cs sc : List ℕ} {g : Given} {m : Meter} (s : Stand l ds rs cs sc g m) where
  pub rows_in_use : length (store_of l sc m.mark) ≡ g.nlib + m.mark
  rows_in_use = held_length l sc m.mark g.nlib s.held

  -- a declaration's value
  pub value_below : (d : ℕ) → d < length ds / 16 → IfSome (value_given (decl_read (part 16 ds d))) (λ v. v.row < g.nlib + m.mark)
  value_below d there = on (value_given (decl_read (part 16 ds d))) refl
    where
      on : (v : Maybe Ptr) → value_given (decl_read (part 16 ds d)) ≡ v → IfSome v (λ v. v.row < g.nlib + m.mark)
      on None q = tt
      on (Some v) q = let k = s.sane.value d (ptr_of v) (valued_is ds rs cs g.depth d there q) in omega (arith, k.there, rows_in_use)

  context_scope : (i : ℕ) (v : rules.Ptr) → value_of (env_of [] [] cs g.depth) i ≡ some v → InScope (store_of l sc m.mark) (depth_of (env_of ds rs cs g.depth) - suc i) v
  unfolding value_of
  context_scope i v q = s.sane.context i v q

  -- a context value, for an index that a term in scope can have
  pub has_context : (i : ℕ) → i < 65536 → HasContext cs g.depth (g.nlib + m.mark) i
  has_context i h = record {
    records = s.tabled.records;
    index = h;
    there = λ v q. omega (arith, (context_scope i v q).there, rows_in_use);
    near = λ v q. let small = s.small in omega (arith, scope_shift (context_scope i v q), depth_is ds rs cs g.depth);
  }

module _ {l ds rs cs sc : List ℕ} {g : Given} {m : Meter} {t : Ptr} (a : Asked l ds rs cs sc g m t) where
  -- a variable at the head is below the depth
  pub head_index : {i : ℕ} → row_at (store_of l sc m.mark) (head_of (store_of l sc m.mark) (ptr_of t)).row ≡ var i → i + (head_of (store_of l sc m.mark) (ptr_of t)).shift < g.depth
  unfolding cell
  head_index q = let w = (head_row_in a 0 q).within in omega (arith, w, depth_is ds rs cs g.depth)

  pub variable_held : {i : ℕ} → row_at (store_of l sc m.mark) (head_of (store_of l sc m.mark) (ptr_of t)).row ≡ var i →
      HasContext cs g.depth (g.nlib + m.mark) (i + (head_of (store_of l sc m.mark) (ptr_of t)).shift)
  variable_held q = let small = a.stand.small in has_context a.stand _ (omega (arith, head_index q))
