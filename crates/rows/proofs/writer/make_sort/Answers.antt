-- `rows::writer::make_sort` meets its contract: 10; or a sort has no children, and its row is the rules'.
-- Assumes nothing.
use native.Mathlib.Omega.{arith}
use Rattle.rows.proofs.DueRows.{sort_due, sort_row_is, level_refused, level_kept}
use Rattle.rows.proofs.writer.make_sort.Goals as goal

pub returns-then-level-gt255 : goal.returns-then-level-gt255
returns-then-level-gt255 c = level_refused _ _ _ _ _ c.args.level (omega arith)

pub make_leaf-requires : goal.make_leaf-requires
make_leaf-requires c = record { held = c.requires; due = sort_due _ _ }

pub returns : goal.returns
returns c = level_kept _ _ _ _ _ _ (omega arith) (rw (sort_row_is c.args.level) at c.make_leaf.ensures)
