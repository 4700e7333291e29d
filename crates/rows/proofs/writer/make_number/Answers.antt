-- `rows::writer::make_number` meets its contract: a number has no children, and its row is the rules'.
-- Assumes nothing.
use Rattle.rows.proofs.DueRows.{number_due, number_row_is}
use Rattle.rows.proofs.writer.make_number.Goals as goal

pub make_leaf-requires : goal.make_leaf-requires
make_leaf-requires c = record { held = c.requires; due = number_due _ _ _ }

pub returns : goal.returns
returns c = rw (number_row_is c.args.low c.args.high) at c.make_leaf.ensures
