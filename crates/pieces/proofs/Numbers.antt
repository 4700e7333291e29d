-- The ways out of `infer_number`: nobody holds the role, or the constant of whoever holds it was written.
-- Assumes what a member is given, whatever the declarations, the rules and the context are.
use Prim.Native.Nat.{ℕ, ◌+◌, ◌/◌}
use mathlib.Core.Path.{◌≡◌, sym, ap, ◌∙◌}
use mathlib.Core.List.{List}
use mathlib.Core.Option.{Option, some}
use lib.ListN.{length}
use Rattle.rules.specs.Kinds.{const}
use Rattle.rules.specs.Rows.{leaf}
use Rattle.rules.specs.Declarations.{nat, holder}
use Rattle.course.specs.Charged.{put_in}
use Rattle.safety.specs.Sane.{holder_below}
use Rattle.inferring.specs.Asks.{Ask, answers, writes, if_there, number_type}
use Rattle.rows.specs.Words.{store_of}
use Rattle.tables.specs.declared.codes.Role.TheVariants.{Nat}
use Rattle.tables.specs.Read.{found_number, holder_in}
use Rattle.state.specs.declared.Given.{Given}
use Rattle.state.specs.declared.Meter.{Meter}
use Rattle.state.specs.State.{Reduced}
use Rattle.typing.specs.Here.{here, env_at, Ready}
use Rattle.typing.specs.Written.{Written}
use Rattle.typing.proofs.Places.{form_by_piece}
use Rattle.pieces.specs.Leaves.{NumberType}
use Rattle.pieces.proofs.MadeRows.{made_const_gives}
use Rattle.pieces.proofs.Forms.{begins_as, no_type}
use Rattle.std.specs.Prelude.{Err, None, Option as Maybe, Some}
use Rattle.rows.specs.declared.refusals.Refusal.TheVariants.{NoType}

-- what is asked of a holder
abbrev typed_by : Option ℕ → Ask
typed_by o = if_there o λ d. writes (leaf (const d 0)) λ s p. answers p

module _ {l sc : List ℕ} {g : Given} {m : Meter} {x : Maybe ℕ} (read : x ≡ holder_in g.holders Nat) where
  -- the holder in any call with these rows
  held_as : (ds rs cs : List ℕ) → Ready (here l ds rs cs sc g m) → holder (env_at (here l ds rs cs sc g m)) nat ≡ found_number x
  held_as ds rs cs ready = sym (ready.stand.tabled.holders.holds rs cs g.depth Nat) ∙ ap found_number (sym read)

  pub nobody_holds : x ≡ None → NumberType l sc g m (Err NoType) sc
  unfolding number_type
  nobody_holds e = record {
    is = λ n ds rs cs ready. no_type ready (ap typed_by (held_as ds rs cs ready ∙ ap found_number e));
  }

  pub somebody_holds : {d : ℕ} → x ≡ Some d → {r : Reduced} {sc' : List ℕ} →
      Written l sc m r sc' (put_in (g.nlib + length sc / 9) (store_of l sc m.mark) (leaf (const d 0))) → NumberType l sc g m r sc'
  unfolding number_type
  somebody_holds {d} e w = record {
    is = λ n ds rs cs ready.
        let held : holder (env_at (here l ds rs cs sc g m)) nat ≡ some d = held_as ds rs cs ready ∙ ap found_number e in
        form_by_piece (begins_as ready (typed_by (some d)) (ap typed_by held))
        (made_const_gives ready d (holder_below (env_at (here l ds rs cs sc g m)) nat held) n w);
  }
