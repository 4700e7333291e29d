-- What it hands the row writer is due: an application, lambda or pi of two rows of the table.
use Rattle.std.proofs.Common.{arith}
use Rattle.rows.proofs.DueRows.{two_due}
use Rattle.rows_run.proofs.make_two.Goals as goal

pub write_made-requires-clause-due : goal.write_made-requires-clause-due
write_made-requires-clause-due g c = two_due _ _ _ _ (omega arith) (omega arith) (omega arith) (omega arith)
