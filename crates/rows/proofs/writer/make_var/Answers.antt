-- `rows::writer::make_var` meets its contract: a variable has no children, and its row is the rules'.
-- Assumes nothing.
use Rattle.rows.proofs.DueRows.{var_due, var_row_is}
use Rattle.rows.proofs.writer.make_var.Goals as goal

pub make_leaf-requires : goal.make_leaf-requires
make_leaf-requires c = record { held = c.requires; due = var_due _ _ }

pub returns : goal.returns
returns c = rw (var_row_is c.args.index) at c.make_leaf.ensures
