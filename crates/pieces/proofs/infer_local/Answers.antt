-- `pieces::infer_local` meets its contract: 9 where there is no record, else the record's type shifted.
-- Assumes nothing.
use Rattle.std.proofs.Common.{◌≡◌, Err, rules}
use Rattle.rows.specs.declared.refusals.Refusal.TheVariants.{NoType}
use Rattle.pieces.proofs.Variables.{no_local, local_shifts, a_local}
use Rattle.pieces.proofs.infer_local.Goals as goal

pub returns-in_err-ty : goal.returns-in_err-ty
returns-in_err-ty c =
    let refused : c.from_residual.result ≡ Err NoType = search rules in
    rw refused (no_local c.type_of.ensures c.in_err-ty.ensures.ok_part)

pub shift_up-requires : goal.shift_up-requires
shift_up-requires c = let both = local_shifts c.type_of.ensures c.in_ok-ty.ensures.ok_part c.requires in record { stands = both.0; k_bound = both.1 }

pub returns : goal.returns
returns c = a_local c.type_of.ensures c.in_ok-ty.ensures.ok_part c.shift_up.ensures
