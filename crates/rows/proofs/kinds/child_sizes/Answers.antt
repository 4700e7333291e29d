-- `rows::kinds::child_sizes` meets its contract: the bound and the height are the child's recorded ones.
-- Assumes nothing.
use native.Mathlib.Omega.{arith}
use mathlib.Core.Path.{refl, ◌∙◌}
use Rattle.rows.proofs.Lookup.{height_read}
use Rattle.rows.proofs.Sizes.{term_adds}
use Rattle.rows.proofs.kinds.child_sizes.Goals as goal

pub returns : goal.returns
returns c = term_adds _ _ _ _ _ c.ptr_bound.ensures (height_read _ _ _ c.requires _ c.row_at.ensures _ (c.from.ensures ∙ c.height_of.ensures)) (omega arith) refl
