-- `rows::writer::make_const` meets its contract: a constant has no children, and its row is the rules'.
-- Assumes nothing.
use Rattle.rows.proofs.DueRows.{const_due, const_row_is}
use Rattle.rows.proofs.writer.make_const.Goals as goal

pub make_leaf-requires : goal.make_leaf-requires
make_leaf-requires c = record { held = c.requires; due = const_due _ _ _ }

pub returns : goal.returns
returns c = rw (const_row_is c.args.declaration c.args.levels) at c.make_leaf.ensures
