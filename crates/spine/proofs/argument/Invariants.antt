use Prim.Native.Nat.{◌+◌, ◌-◌}
use Rattle.spine.proofs.Arguments.{Arguing}
use Rattle.spine.proofs.argument.Given as goal

-- the walk stands at the application of the argument before `_later`, counted from the end of the spine
abbrev pub invariant-loop-later : goal.invariant-loop-later
invariant-loop-later l = Arguing l.library l.scratch l.initial.at l.count l.at (l.count + l.i - l._later)
