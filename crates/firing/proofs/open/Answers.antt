-- `firing::open` meets its contract: 4; or what replacement refuses; or the arguments applied to what it made.
-- Assumes nothing.
use native.Mathlib.Omega.{arith}
use Rattle.rows.proofs.HandedOn.{handed_on}
use Rattle.rows.specs.declared.refusals.Refusal.TheVariants.{NoStep}
use Rattle.firing.proofs.Ends.{stopped_before, no_step}
use Rattle.firing.proofs.Opening.{may_replace, replace_stops, rest_headed, rest_below, rest_left}
use Rattle.firing.proofs.open.Goals as goal

pub returns-then-g-m : goal.returns-then-g-m
returns-then-g-m c = stopped_before NoStep (no_step _ _ _ _ c.if-g-m.true)

pub replace-requires : goal.replace-requires
replace-requires c = may_replace _ _ _ _ _ _ _ _ _ c.requires.headed c.requires.opens

pub returns-in_err-p : goal.returns-in_err-p
returns-in_err-p c =
    rw (handed_on c.from_residual.ensures.1) (replace_stops _ _ _ _ _ _ _ _ _ c.requires.headed c.requires.opens _ (omega arith) c.in_err-p.ensures _)

pub apply_rest-requires : goal.apply_rest-requires
apply_rest-requires c = rw c.at.ensures (record {
  headed = rest_headed _ _ _ _ _ _ _ _ _ c.requires.headed c.requires.opens _ c.in_ok-p.ensures;
  row_bound = (rest_below _ _ _ _ _ _ _ _ _ c.requires.headed c.requires.opens _ c.in_ok-p.ensures, c.requires.from_le_count, omega arith);
})

pub returns : goal.returns
returns c =
    rest_left _ _ _ _ _ _ _ _ _ c.requires.headed c.requires.opens _ c.in_ok-p.ensures (omega arith) c.args.from _ _
    (rw c.at.ensures at c.apply_rest.ensures)
