use Rattle.std.proofs.Common.{ℕ, ◌<◌}
use Rattle.rows.specs.Words.{whole}
use Rattle.tables.specs.Clauses.{DeclKeeps}
use Rattle.tables.proofs.Roles.{Seen}
use Rattle.tables.proofs.accept.check_decls.Given as goal

abbrev pub invariant-loop-j : goal.invariant-loop-j
invariant-loop-j l =
    Seen l.lent.declarations.now l.seen l.j
    × ((k : ℕ) → k < l.j → DeclKeeps l.lent.declarations.now l.lent.rules.now (whole l.lent.library.now l.scratch) l.nlib k)
