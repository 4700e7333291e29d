-- What was tested is what replacement requires.
use Rattle.std.proofs.Common.{refl}
use Rattle.replace_run.proofs.Tested.{all_ready}
use Rattle.replace_run.proofs.replaced.Goals as goal

pub replace-requires : goal.replace-requires
replace-requires c =
    all_ready (c.if-not-held.ensures refl) c.check_rows.ensures c.in_ok-map_err.ensures.variant
    (c.if-not-good.ensures refl) (c.if-not-good_value.ensures refl) (c.if-not-small.ensures refl)
