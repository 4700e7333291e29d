-- `fields::constant_at` meets its contract: the head's row is looked at, and a constant's declaration is read.
-- Assumes nothing.
use mathlib.Core.Path.{ap, ◌∙◌}
use Rattle.rows.specs.Words.{shape_at}
use Rattle.fields.proofs.Constants.{head_stands, declared, at_constant, at_no_constant}
use Rattle.fields.proofs.constant_at.Goals as goal

pub row_at-requires : goal.row_at-requires
row_at-requires c = head_stands _ _ _ _ _ c.head_of-s.ensures c.requires

pub returns-then-w-into : goal.returns-then-w-into
returns-then-w-into c =
    at_no_constant _ _ _ _ _ c.head_of-s.ensures _ (c.shape_of-w.ensures ∙ ap shape_at c.row_at.ensures) (rw c.into.ensures at c.if-w-into.true)

pub decl_at-requires : goal.decl_at-requires
decl_at-requires c =
    declared _ _ _ _ _ c.head_of-s.ensures _ (c.shape_of-w.ensures ∙ ap shape_at c.row_at.ensures) c.requires (c.if-w-into.false ∙ c.into.ensures)

pub returns : goal.returns
returns c =
    at_constant _ _ _ _ _ c.head_of-s.ensures _ (c.shape_of-w.ensures ∙ ap shape_at c.row_at.ensures) (c.if-w-into.false ∙ c.into.ensures) _
    c.decl_at.ensures
