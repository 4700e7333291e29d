use Prim.Native.Nat.{ℕ, ◌<◌}
use Rattle.rows.specs.Checks.{Right}
use Rattle.rows.proofs.row_check.check_rows.Given as goal

abbrev pub invariant-loop-n : goal.invariant-loop-n
invariant-loop-n l = (k : ℕ) → k < l.n → Right l.declarations l.library l.scratch k
