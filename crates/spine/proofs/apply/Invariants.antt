use Rattle.spine.proofs.Applying.{Applied}
use Rattle.spine.proofs.apply.Given as goal

abbrev pub invariant-loop-i : goal.invariant-loop-i
invariant-loop-i l = Applied l.library l.initial.scratch l.nlib l.mark l.initial.result l.t l.from l.scratch l.result l.at l.i
