-- `firing::apply_rest` meets its contract: what `apply` wrote, and the step counted with it.
-- Assumes nothing.
use mathlib.Core.Path.{ap}
use Rattle.rows.proofs.HandedOn.{handed_on}
use Rattle.ways.specs.Steps.{out_step}
use Rattle.state.specs.State.{limits_in}
use Rattle.firing.proofs.Ends.{wrote_term, wrote_refused, rest_is, left_as}
use Rattle.firing.proofs.apply_rest.Goals as goal

pub returns-in_err-p : goal.returns-in_err-p
returns-in_err-p c =
    let lim = limits_in c.args.g c.args.scratch.now in
    rw (handed_on c.from_residual.ensures.1)
    (left_as (ap (out_step lim c.args.m.steps) (rest_is _ _ _ _ _ _ c.requires.headed.counted)) (wrote_refused lim _ _ _ _ _ c.in_err-p.ensures))

pub returns : goal.returns
returns c =
    let lim = limits_in c.args.g c.args.scratch.now in
    rw c.stepped.ensures
    (left_as (ap (out_step lim c.args.m.steps) (rest_is _ _ _ _ _ _ c.requires.headed.counted)) (wrote_term lim _ _ _ _ _ c.in_ok-p.ensures))
