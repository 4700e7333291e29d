-- `majors::apply_rule` meets its contract: three runs of arguments in turn, and the first refusal ends it.
-- Assumes nothing.
use Rattle.rows.proofs.HandedOn.{handed_on}
use Rattle.majors.proofs.Runs.{may_begin, refused_first, may_go_on, refused_second, may_end, all_runs}
use Rattle.majors.proofs.apply_rule.Goals as goal

pub apply-requires : goal.apply-requires
apply-requires c = may_begin _ _ _ _ _ _ _ _ _ _ _ _ c.requires

pub returns-in_err-p : goal.returns-in_err-p
returns-in_err-p c =
    rw (handed_on c.from_residual.ensures.1) (refused_first _ _ _ _ _ _ _ _ _ _ _ _ c.requires c.in_err-p.ensures)

pub apply-requires-2 : goal.apply-requires-2
apply-requires-2 c = may_go_on _ _ _ _ _ _ _ _ _ _ _ _ c.requires c.in_ok-p.ensures

pub returns-in_err-q : goal.returns-in_err-q
returns-in_err-q c =
    rw (handed_on c.from_residual-in_err-q.ensures.1) (refused_second _ _ _ _ _ _ _ _ _ _ _ _ c.requires c.in_ok-p.ensures c.in_err-q.ensures)

pub apply-requires-3 : goal.apply-requires-3
apply-requires-3 c = may_end _ _ _ _ _ _ _ _ _ _ _ _ c.requires c.in_ok-p.ensures c.in_ok-q.ensures

pub returns : goal.returns
returns c = all_runs _ _ _ _ _ _ _ _ _ _ _ _ c.requires c.in_ok-p.ensures c.in_ok-q.ensures c.apply-3.ensures
