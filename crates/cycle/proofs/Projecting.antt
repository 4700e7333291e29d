-- The ways out of projection: refused in the structure's reduction, no field there, the field given.
-- Assumes what the member is given.
use Prim.Native.Nat.{ℕ}
use mathlib.Core.Path.{◌≡◌, sym, ap, ◌∙◌}
use mathlib.Core.List.{List}
use mathlib.Core.Option.{Option, none, some}
use Rattle.rules.specs.Rows as rules
use Rattle.rules.specs.RowCheck.{InScope}
use Rattle.rules.specs.Firings.{itself}
use Rattle.rules.specs.HeadTests.{field_at}
use Rattle.course.specs.Eval.{firing}
use Rattle.safety.specs.Scope.{itself_in}
use Rattle.safety.specs.Parts.{field_in}
use Rattle.ways.specs.Steps.{step_of, fire_in}
use Rattle.ways.specs.Spines.{args_of}
use Rattle.ways.specs.Ways.{projection_refused, projection_missed, projection_fires}
use Rattle.rows.specs.declared.Ptr.{Ptr}
use Rattle.rows.specs.Words.{ptr_of, store_of}
use Rattle.tables.specs.Env.{env_of}
use Rattle.state.specs.declared.Given.{Given}
use Rattle.state.specs.declared.Meter.{Meter}
use Rattle.state.specs.State.{Answer}
use Rattle.state.specs.State.{tally_of, limits_in, Left}
use Rattle.cycle.specs.Cycle.{Counted, Ran, res_by}
use Rattle.cycle.specs.Members.{projected}
use Rattle.cycle.proofs.WaysOut.{refused_left, head_row, side_ended, same_arguments, major_arguments, missed_after, fired_after}
use Rattle.std.specs.Prelude.{Err, Ok}
use Rattle.state.specs.declared.Tried.TheVariants.{Final}
use Rattle.rows.specs.declared.refusals.Refusal.{Refusal}

module _ {l ds rs cs sc : List ℕ} {g : Given} {m : Meter} {t : Ptr} {count : ℕ} (c : Counted l ds rs cs sc g m t count) (n index : ℕ)
    {x : Ptr} (i : InScope (store_of l sc m.mark) g.depth (ptr_of x)) where
  pub projection_stops : {sc₁ : List ℕ} {k : Refusal} → Ran l sc m (Err k) sc₁ (res_by l ds rs cs sc g m n (ptr_of x)) →
      Left l sc m (Err k) sc₁ (projected l ds rs cs sc g m t n x index)
  projection_stops r = refused_left r (sym (ap (step_of (limits_in g sc)) (projection_refused _ _ _ index _ (sym r.says))))

  module _ {sc₁ : List ℕ} {q : Ptr} {m₁ : Meter} (r : Ran l sc m (Ok (q, m₁)) sc₁ (res_by l ds rs cs sc g m n (ptr_of x))) where
    abbrev found : Option rules.Ptr
    found = field_at (env_of ds rs cs g.depth) (head_row (store_of l sc₁ m₁.mark) (ptr_of q)) (args_of (store_of l sc₁ m₁.mark) (ptr_of q)) index

    pub projection_ends : none ≡ found → Left l sc m (Ok (Final m₁)) sc₁ (projected l ds rs cs sc g m t n x index)
    projection_ends none_there = missed_after c n i r (projection_missed _ _ _ index _ (side_ended c n i r) (sym none_there))

    pub projection_gives : {a : Ptr} {o : Answer} {sc₂ : List ℕ} → some (ptr_of a) ≡ found →
        Left l sc₁ m₁ o sc₂ (fire_in (limits_in g sc₁) (tally_of l sc₁ m₁) (itself (ptr_of a)) (args_of (store_of l sc₁ m₁.mark) (ptr_of t))) →
        Left l sc m o sc₂ (projected l ds rs cs sc g m t n x index)
    projection_gives {a} there =
        fired_after c n i r (itself_in (field_in (env_of ds rs cs g.depth) _ index (major_arguments c n i r) (sym there)))
        (projection_fires _ _ _ index _ (side_ended c n i r) (sym there) ∙ ap (firing (tally_of l sc₁ m₁) (itself (ptr_of a))) (sym (same_arguments c n i r)))
