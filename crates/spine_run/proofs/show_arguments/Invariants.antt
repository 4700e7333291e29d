-- The count is the one that was found, so each argument below it may be asked for.
use Rattle.spine.specs.Walks.{Counted}
use Rattle.spine_run.proofs.show_arguments.Given as goal

abbrev pub invariant-loop-i : goal.invariant-loop-i
invariant-loop-i g l = Counted l.library l.scratch l.t l.count
