-- `call::whnf` meets its contract: acceptance decides, and accepted input is reduced.
-- Assumes nothing.
use Rattle.call.proofs.Verdicts.{verdict_accepted, verdict_refused}
use Rattle.call.proofs.whnf.Goals as goal

pub returns-in-Err : goal.returns-in-Err
returns-in-Err c = verdict_refused (rw c.in-Err.is at c.accept.ensures)

pub reduce-requires : goal.reduce-requires
reduce-requires c = verdict_accepted (rw c.in-Ok.is at c.accept.ensures)
