-- `tables::clauses::value_ok` meets its contract: by the flag, and without a value both words are 0.
-- Assumes nothing.
use Rattle.rows.specs.Words.{ptr_of}
use Rattle.tables.proofs.ClauseTests.{given_value, shift_left}
use Rattle.tables.proofs.clauses.value_ok.Goals as goal

pub returns-then-p-eq0 : goal.returns-then-p-eq0
returns-then-p-eq0 c = shift_left _ _ _ (ptr_of c.args.p) _ c.in-0.is c.if-p-eq0.true

pub returns-in-1 : goal.returns-in-1
returns-in-1 c = given_value _ _ _ (ptr_of c.args.p) _ c.in-1.is c.scoped.ensures
