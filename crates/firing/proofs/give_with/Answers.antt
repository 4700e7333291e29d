-- `firing::give_with` meets its contract: 4; or what the row of the application refuses; or the arguments applied to it.
-- Assumes nothing.
use native.Mathlib.Omega.{arith}
use Rattle.rows.proofs.HandedOn.{handed_on}
use Rattle.rows.specs.declared.refusals.Refusal.TheVariants.{NoStep}
use Rattle.firing.proofs.Ends.{stopped_before, no_step}
use Rattle.firing.proofs.Applied.{stands_below, first_stops, others_headed, first_below, others_left}
use Rattle.firing.proofs.give_with.Goals as goal

pub returns-then-g-m : goal.returns-then-g-m
returns-then-g-m c = stopped_before NoStep (no_step _ _ _ _ c.if-g-m.true)

pub apply_one-requires : goal.apply_one-requires
apply_one-requires c =
    let below-f = stands_below _ _ _ _ _ _ c.requires.headed c.requires.good.0 in
    let below-a = stands_below _ _ _ _ _ _ c.requires.headed c.requires.good.1 in
    record { held = c.requires.headed.used.held; row_bound = (omega arith, omega arith) }

pub returns-in_err-p : goal.returns-in_err-p
returns-in_err-p c =
    rw (handed_on c.from_residual.ensures.1) (first_stops _ _ _ _ _ _ c.requires.headed _ _ (omega arith) c.in_err-p.ensures _)

pub apply_rest-requires : goal.apply_rest-requires
apply_rest-requires c =
    let good = c.requires.good in
    rw c.at.ensures (record {
      headed = others_headed _ _ _ _ _ _ c.requires.headed _ _ good.0 good.1 c.in_ok-p.ensures;
      row_bound = (first_below _ _ _ _ _ _ c.requires.headed _ _ good.0 good.1 c.in_ok-p.ensures, c.requires.from_le_count, omega arith);
    })

pub returns : goal.returns
returns c =
    let good = c.requires.good in
    others_left _ _ _ _ _ _ c.requires.headed _ _ good.0 good.1 c.in_ok-p.ensures (omega arith) c.args.from (rw c.at.ensures at c.apply_rest.ensures)
