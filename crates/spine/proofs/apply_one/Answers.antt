-- `spine::apply_one` meets its contract: the row of an application over both pointers is due, and is the rules' application.
-- Assumes nothing.
use native.Mathlib.Omega.{arith}
use Rattle.rows.proofs.DueRows.{two_due, app_row_is}
use Rattle.spine.proofs.apply_one.Goals as goal

pub make-requires : goal.make-requires
make-requires c = record {
  held = c.requires.held;
  due = rw c.into.ensures (two_due _ _ _ _ (omega arith) (omega arith) c.requires.row_bound.0 c.requires.row_bound.1);
}

pub returns : goal.returns
returns c = rw (c.into.ensures, app_row_is _ _) at c.make.ensures
