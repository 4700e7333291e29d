use Rattle.spine.proofs.Heads.{height_at, Walking}
use Rattle.spine.proofs.head_of.Given as goal

abbrev pub invariant-loop-head : goal.invariant-loop-head
invariant-loop-head l = Walking l.library l.scratch l.initial.head l.head l.count

abbrev pub decreases-loop-head : goal.decreases-loop-head
decreases-loop-head l = height_at l.library l.scratch l.head
