-- `majors::by_rule` meets its contract: the first rule for the constructor, if its fields are there; 4, then the rows of the three runs.
-- Assumes nothing.
use native.Mathlib.Omega.{arith}
use Rattle.majors.proofs.Ruling.{no_rule_left, few_left, no_step_left, may_apply, rule_fired}
use Rattle.majors.proofs.by_rule.Goals as goal

pub returns-in_default : goal.returns-in_default
returns-in_default c = no_rule_left _ _ _ _ _ _ _ _ _ _ _ _ c.requires _ c.rule_for.ensures c.in_default.is

pub returns-then-made-r : goal.returns-then-made-r
returns-then-made-r c = few_left _ _ _ _ _ _ _ _ _ _ _ _ c.requires _ c.rule_for.ensures _ c.in-Some.is (omega arith)

pub returns-then-g-m : goal.returns-then-g-m
returns-then-g-m c = no_step_left _ _ _ _ _ _ _ _ _ _ _ _ c.requires _ c.rule_for.ensures _ c.in-Some.is (omega arith) (omega arith)

pub apply_rule-out-requires : goal.apply_rule-out-requires
apply_rule-out-requires c = may_apply _ _ _ _ _ _ _ _ _ _ _ _ c.requires _ c.rule_for.ensures _ c.in-Some.is (omega arith)

pub returns : goal.returns
returns c =
    rw c.fired.ensures
    (rule_fired _ _ _ _ _ _ _ _ _ _ _ _ c.requires _ c.rule_for.ensures _ c.in-Some.is (omega arith) (omega arith) _ _ c.apply_rule-out.ensures)
