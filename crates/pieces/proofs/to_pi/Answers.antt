-- `pieces::to_pi` meets its contract: refused, no pi, or the parts of the row that was reached.
-- Assumes nothing.
use Rattle.std.proofs.Common.{◌≡◌, Err, rules}
use Rattle.rows.specs.declared.refusals.Refusal.TheVariants.{NoType}
use Rattle.reduce.proofs.Sides.{ran_as}
use Rattle.pieces.proofs.Reducts.{reduct_stands}
use Rattle.pieces.proofs.Pis.{pi_stopped, no_pi_reached, type_stands, type_shift, pi_reached}
use Rattle.pieces.proofs.to_pi.Goals as goal

pub returns-in_default : goal.returns-in_default
returns-in_default c = pi_stopped _ c.requires.ready c.requires.scope (ran_as c.unwrap_err.ensures c.side-got.ensures)

pub pi_at-requires : goal.pi_at-requires
pi_at-requires c = reduct_stands _ c.requires.ready c.requires.scope c.in-Ok.ensures

pub returns-in_err-pi : goal.returns-in_err-pi
returns-in_err-pi c =
    let refused : c.from_residual.result ≡ Err NoType = search rules in
    rw refused (no_pi_reached _ c.requires.ready c.requires.scope c.in-Ok.ensures c.pi_at.ensures c.in_err-pi.ensures.ok_part)

pub shift_up-requires-clause-stands : goal.shift_up-requires-clause-stands
shift_up-requires-clause-stands c = type_stands _ c.requires.ready c.requires.scope c.in-Ok.ensures c.pi_at.ensures c.in_ok-pi.ensures.ok_part

pub shift_up-requires-clause-k_bound : goal.shift_up-requires-clause-k_bound
shift_up-requires-clause-k_bound c = type_shift _ c.requires.ready c.requires.scope c.in-Ok.ensures c.pi_at.ensures c.in_ok-pi.ensures.ok_part

pub returns : goal.returns
returns c = pi_reached _ c.requires.ready c.requires.scope c.in-Ok.ensures c.pi_at.ensures c.in_ok-pi.ensures.ok_part c.shift_up.ensures
