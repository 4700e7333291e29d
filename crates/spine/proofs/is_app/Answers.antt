-- `spine::is_app` meets its contract: the kind word is the one of the row that stands there.
-- Assumes nothing.
use mathlib.Core.Path.{ap, ap₂, ◌∙◌}
use mathlib.Core.List.{List}
use Prim.Native.Nat.{ℕ}
use lib.ListN.{get_or}
use lib.Dec.{eqb}
use Rattle.spine.proofs.is_app.Goals as goal

pub returns : goal.returns
returns c = ap₂ eqb (c.kind_of.ensures ∙ ap (λ (ws : List ℕ). get_or ws 0 0) c.row_at.ensures) c.into.ensures
