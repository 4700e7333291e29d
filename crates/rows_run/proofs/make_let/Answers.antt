-- What it hands the row writer is due: a let of three rows of the table.
use Rattle.std.proofs.Common.{arith}
use Rattle.rows.proofs.DueRows.{let_due}
use Rattle.rows_run.proofs.make_let.Goals as goal

pub write_made-requires-clause-due : goal.write_made-requires-clause-due
write_made-requires-clause-due g c = rw c.from-code.ensures (let_due _ _ _ _ (omega arith) (omega arith) (omega arith))
