use Rattle.tables.proofs.Holding.{HoldersFrom}
use Rattle.tables.proofs.role_holders.Given as goal

abbrev pub invariant-loop-d : goal.invariant-loop-d
invariant-loop-d l = HoldersFrom l.decls l.d l.of
