-- `spine::argument` meets its contract. The loop's invariant: the walk has passed the arguments from the last one on, one for each turn.
-- Assumes nothing.
use native.Mathlib.Omega.{arith}
use Rattle.spine.proofs.Arguments.{moved, begin, function_there, argument_there, onward, found}
use Rattle.spine.proofs.argument.Goals as goal

pub loop-later-init : goal.loop-later-init
loop-later-init c = moved _ _ _ _ _ _ _ (omega arith) (begin _ _ _ _ c.requires.counted (omega arith))

pub child-at-requires-clause-has_child : goal.child-at-requires-clause-has_child
child-at-requires-clause-has_child c = function_there _ _ _ _ _ _ c.loop-later.invariant

pub loop-later-preserved : goal.loop-later-preserved
loop-later-preserved c = moved _ _ _ _ _ _ _ (omega arith) (onward _ _ _ _ _ _ c.loop-later.invariant _ c.child-at.ensures (omega arith))

pub child-requires-clause-has_child : goal.child-requires-clause-has_child
child-requires-clause-has_child c = argument_there _ _ _ _ _ _ c.loop-later.invariant

pub returns : goal.returns
returns c = found _ _ _ _ _ _ c.loop-later.invariant _ (omega arith) _ c.child.ensures
