-- The measure: the levels that may follow, twice, and a rank.
use Prim.Native.Nat.{◌+◌, ◌*◌}
use Rattle.readout.proofs.+put_term.Given as goal

abbrev pub decreases-put_field : goal.decreases-put_field
decreases-put_field l = 2 * l.place.levels

abbrev pub decreases-put_term : goal.decreases-put_term
decreases-put_term l = 2 * l.place.levels + 1
