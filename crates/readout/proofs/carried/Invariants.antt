use Rattle.readout.proofs.Carrying.{Carrying}
use Rattle.readout.proofs.carried.Given as goal

abbrev pub invariant-loop-i : goal.invariant-loop-i
invariant-loop-i l = Carrying l.path l.place l.index l.i l.carried
