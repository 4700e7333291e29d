-- Projection's calls and ways out, by the answers that the code has seen: the structure's reduction, the field read from its term.
-- Assumes what the member is given.
use Prim.Native.Nat.{ℕ, ◌+◌, ◌≤◌, ◌<◌}
use native.Mathlib.Omega.{arith}
use mathlib.Core.Path.{◌≡◌, sym}
use mathlib.Core.List.{List}
use Rattle.rules.specs.RowCheck.{InScope}
use Rattle.rules.specs.Firings.{itself}
use Rattle.ways.specs.Steps.{fire_in}
use Rattle.ways.specs.Spines.{args_of}
use Rattle.rows.specs.declared.Ptr.{Ptr}
use Rattle.rows.specs.Words.{ptr_of, store_of}
use Rattle.fields.specs.Fields.{FieldAt}
use Rattle.fields.proofs.ForCallers.{field_missed, field_found, field_scope}
use Rattle.state.specs.declared.Given.{Given}
use Rattle.state.specs.declared.Meter.{Meter}
use Rattle.state.specs.State.{Answer}
use Rattle.state.specs.State.{Reduced}
use Rattle.state.specs.State.{tally_of, limits_in, Headed, Left}
use Rattle.cycle.specs.Cycle.{Asked, Counted, Ran, res_by}
use Rattle.cycle.specs.Members.{projected}
use Rattle.cycle.proofs.Projecting.{projection_stops, projection_ends, projection_gives}
use Rattle.reduce.proofs.Sides.{ran_as, rows_pass, scope_below, Came, came_asked, still_headed}
use Rattle.std.specs.Prelude.{Err, None, Ok, Option as Maybe, Some}
use Rattle.state.specs.declared.Tried.TheVariants.{Final}
use Rattle.rows.specs.declared.refusals.Refusal.{Refusal}

-- the structure's reduction was refused
pub structure_refused : {l ds rs cs sc : List ℕ} {g : Given} {m : Meter} {t : Ptr} {count : ℕ} → Counted l ds rs cs sc g m t count → (n index : ℕ) →
    {x : Ptr} → InScope (store_of l sc m.mark) g.depth (ptr_of x) →
    {r : Reduced} {sc₁ : List ℕ} → Ran l sc m r sc₁ (res_by l ds rs cs sc g m n (ptr_of x)) →
    {k : Refusal} → r ≡ Err k → Left l sc m (Err k) sc₁ (projected l ds rs cs sc g m t n x index)
structure_refused c n index i ran e = projection_stops c n index i (ran_as e ran)

-- it came to q, and f is what was read there at the index
module _ {l ds rs cs sc : List ℕ} {g : Given} {m : Meter} {t : Ptr} {count n : ℕ} {x : Ptr} {sc₁ : List ℕ} {q : Ptr} {m₁ : Meter}
    (k : Came l ds rs cs sc g m t count n x sc₁ q m₁) {index : ℕ} {f : (Maybe Ptr)} (answered : FieldAt l ds sc₁ q index f) where
  asked : Asked l ds rs cs sc₁ g m₁ q
  asked = came_asked k

  pub no_field : f ≡ None → Left l sc m (Ok (Final m₁)) sc₁ (projected l ds rs cs sc g m t n x index)
  no_field z =
      projection_ends k.given n index k.scope k.ran
      (sym (field_missed l ds sc₁ q g.nlib m₁.mark g.depth asked.stand.held (rows_pass asked) asked.scope rs cs g.depth f index answered z))

  module _ {a : Ptr} (z : f ≡ Some a) where
    pub field_there : Headed l sc₁ g m₁ t count × ((a.row < g.nlib + m₁.mark) × (0 ≤ count))
    field_there =
        let scope = field_scope l ds sc₁ q g.nlib m₁.mark g.depth asked.stand.held (rows_pass asked) asked.scope rs cs g.depth f index answered a z in
        (still_headed k, (scope_below asked scope, omega arith))

    pub field_given : {o : Answer} {sc₂ : List ℕ} →
        Left l sc₁ m₁ o sc₂ (fire_in (limits_in g sc₁) (tally_of l sc₁ m₁) (itself (ptr_of a)) (args_of (store_of l sc₁ m₁.mark) (ptr_of t))) →
        Left l sc m o sc₂ (projected l ds rs cs sc g m t n x index)
    field_given =
        projection_gives k.given n index k.scope k.ran
        (sym (field_found l ds sc₁ q g.nlib m₁.mark g.depth asked.stand.held (rows_pass asked) asked.scope rs cs g.depth f index answered a z))
