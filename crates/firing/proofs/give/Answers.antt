-- `firing::give` meets its contract: 4, or what `apply_rest` answers.
-- Assumes nothing.
use native.Mathlib.Omega.{arith}
use Rattle.rows.specs.declared.refusals.Refusal.TheVariants.{NoStep}
use Rattle.firing.proofs.Ends.{stopped_before, no_step, itself_fires, left_as}
use Rattle.firing.proofs.give.Goals as goal

pub returns-then-g-m : goal.returns-then-g-m
returns-then-g-m c = stopped_before NoStep (no_step _ _ _ _ c.if-g-m.true)

pub returns : goal.returns
returns c = left_as (itself_fires _ _ _ _ (omega arith)) c.apply_rest.ensures
