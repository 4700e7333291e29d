-- Where it answers true, the pointer is good.
use Rattle.replace_run.proofs.Tested.{good_still, good_open}
use Rattle.replace_run.proofs.good.Goals as goal

pub returns-then-p-eq0 : goal.returns-then-p-eq0
returns-then-p-eq0 c = λ _. good_still c.requires _ c.if-p-nlib.true c.if-p-eq0.true

pub returns-else-p-eq0 : goal.returns-else-p-eq0
returns-else-p-eq0 c = good_open c.requires _ c.if-p-nlib.true c.row_at.ensures c.bound_of.ensures
