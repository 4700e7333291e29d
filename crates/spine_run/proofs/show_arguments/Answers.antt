-- What was tested is what the walks ask for, and the count is the one that was found.
use Rattle.spine_run.proofs.Asking.{walks_of, counted_of}
use Rattle.spine_run.proofs.show_arguments.Goals as goal

pub head_of-r-requires : goal.head_of-r-requires
head_of-r-requires g c = walks_of _ _ _ _ c.requires _ (c.ready.ensures.yes c.if-ready.true)

pub loop-i-init : goal.loop-i-init
loop-i-init g c = counted_of _ _ _ _ c.requires _ (c.ready.ensures.yes c.if-ready.true) _ c.head_of-r.ensures
