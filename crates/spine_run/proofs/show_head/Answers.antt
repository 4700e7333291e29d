-- What was tested is what the walk asks for.
use Rattle.spine_run.proofs.Asking.{walks_of}
use Rattle.spine_run.proofs.show_head.Goals as goal

pub head_of-r-requires : goal.head_of-r-requires
head_of-r-requires g c = walks_of _ _ _ _ c.requires _ (c.ready.ensures.yes c.if-ready.true)
