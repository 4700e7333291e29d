-- The walk stands before parameter i.
use Rattle.typing.specs.Here.{here}
use Rattle.pieces.proofs.ParameterWalk.{WalkedTo}
use Rattle.pieces.proofs.walk_parameters.Given as goal

abbrev pub invariant-loop-i : goal.invariant-loop-i
invariant-loop-i l =
    WalkedTo l.nesting (here l.lent.library.now l.lent.declarations.now l.lent.rules.now l.lent.context.now l.initial.scratch l.g l.initial.meter) l.many
    l.initial.at l.t l.scratch l.at l.meter l.i
