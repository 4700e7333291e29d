-- `tables::role_holders` meets its contract. The loop's invariant: the table is right for the declarations from number d on.
-- Assumes nothing.
use Rattle.std.proofs.Common.{refl, arith}
use Rattle.tables.proofs.Holding.{holders_none, holders_all, holders_more, holders_put}
use Rattle.tables.proofs.role_holders.Goals as goal

pub loop-d-init : goal.loop-d-init
loop-d-init c = holders_none _

pub loop-d-preserved-in-Ok : goal.loop-d-preserved-in-Ok
loop-d-preserved-in-Ok c = rw c.code.ensures (holders_put _ _ _ _ c.loop-d-test.true (omega arith) refl c.loop-d.invariant c.in-Ok.role c.in-Ok.ensures)

pub loop-d-preserved : goal.loop-d-preserved
loop-d-preserved c = holders_more _ _ _ _ c.loop-d-test.true (omega arith) refl c.loop-d.invariant c.in_default.ensures.1

pub returns : goal.returns
returns c = holders_all _ _ _ (omega arith) c.loop-d.invariant
