-- What was tested is what the walk and the application ask for.
use Rattle.std.proofs.Common.{refl}
use Rattle.spine_run.proofs.Asking.{walks_of, applies_of}
use Rattle.spine_run.proofs.show_apply.Goals as goal

pub head_of-r-requires : goal.head_of-r-requires
head_of-r-requires g c = walks_of _ _ _ _ c.requires _ (c.if-not-ready.ensures.yes refl)

pub apply-out-requires : goal.apply-out-requires
apply-out-requires g c =
    applies_of _ _ _ _ c.requires _ (c.if-not-ready.ensures.yes refl) _ c.head_of-r.ensures _ _ _ c.if-nlib-mark.false c.if-to-from.false
    c.if-count-to.false
