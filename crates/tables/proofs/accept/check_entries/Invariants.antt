use Rattle.std.proofs.Common.{ℕ, ◌<◌}
use Rattle.rows.specs.Words.{whole}
use Rattle.tables.specs.Clauses.{EntryRight}
use Rattle.tables.proofs.accept.check_entries.Given as goal

abbrev pub invariant-loop-j : goal.invariant-loop-j
invariant-loop-j l = (k : ℕ) → k < l.j → EntryRight l.lent.context.now (whole l.lent.library.now l.scratch) l.rows k
