-- `pieces::infer_number` meets its contract: 9 where nobody holds the role, else the constant that was written.
-- Assumes nothing.
use Rattle.std.proofs.Common.{◌≡◌, Err, rules}
use Rattle.rows.specs.declared.refusals.Refusal.TheVariants.{NoType}
use Rattle.pieces.proofs.Numbers.{nobody_holds, somebody_holds}
use Rattle.pieces.proofs.infer_number.Goals as goal

pub returns-in_err-nat : goal.returns-in_err-nat
returns-in_err-nat c =
    let refused : c.from_residual.result ≡ Err NoType = search rules in
    rw refused (nobody_holds c.holder.ensures c.in_err-nat.ensures.ok_part)

pub returns : goal.returns
returns c =
    somebody_holds c.holder.ensures c.in_ok-nat.ensures.ok_part (record { answer = _; wrote = c.make_const.ensures; is = c.written.ensures })
