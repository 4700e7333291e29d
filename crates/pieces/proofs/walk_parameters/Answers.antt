-- `pieces::walk_parameters` meets its contract. The loop's invariant: the walk stands before parameter i.
-- Assumes nothing.
use Rattle.std.proofs.Common.{refl}
use Rattle.rows.proofs.HandedOn.{handed_on}
use Rattle.pieces.proofs.ParameterWalk.{all_walked, may_go_on, turn_stopped, turn_taken}
use Rattle.pieces.proofs.walk_parameters.Goals as goal

pub parameter-requires-clause-walking : goal.parameter-requires-clause-walking
parameter-requires-clause-walking c = may_go_on _ c.requires.ready _ c.requires.walking c.loop-i.invariant

pub returns-in_err-at : goal.returns-in_err-at
returns-in_err-at c =
    rw (handed_on c.from_residual.ensures.1)
    (turn_stopped _ c.requires.ready _ c.requires.walking c.loop-i.invariant c.loop-i-test.true c.in_err-at.ensures refl)

pub loop-i-preserved : goal.loop-i-preserved
loop-i-preserved c = turn_taken _ c.requires.ready _ c.requires.walking c.loop-i.invariant c.loop-i-test.true c.in_ok-at.ensures refl

pub returns : goal.returns
returns c = all_walked _ c.requires.ready _ c.requires.walking c.loop-i.invariant c.loop-i-test.false
