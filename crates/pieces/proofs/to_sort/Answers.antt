-- `pieces::to_sort` meets its contract: refused, no sort, or the level of the row that was reached.
-- Assumes nothing.
use Rattle.std.proofs.Common.{◌≡◌, Err, rules}
use Rattle.rows.specs.declared.refusals.Refusal.TheVariants.{NoType}
use Rattle.reduce.proofs.Sides.{ran_as}
use Rattle.pieces.proofs.Reducts.{reduct_stands}
use Rattle.pieces.proofs.Sorts.{sort_stopped, sort_reached, no_sort_reached}
use Rattle.pieces.proofs.to_sort.Goals as goal

pub returns-in_default : goal.returns-in_default
returns-in_default c = sort_stopped _ c.requires.ready c.requires.scope (ran_as c.unwrap_err.ensures c.side-got.ensures)

pub sort_at-requires : goal.sort_at-requires
sort_at-requires c = reduct_stands _ c.requires.ready c.requires.scope c.in-Ok.ensures

pub returns-in_err-level : goal.returns-in_err-level
returns-in_err-level c =
    let refused : c.from_residual.result ≡ Err NoType = search rules in
    rw refused (no_sort_reached _ c.requires.ready c.requires.scope c.in-Ok.ensures c.sort_at.ensures c.in_err-level.ensures.ok_part)

pub returns : goal.returns
returns c = sort_reached _ c.requires.ready c.requires.scope c.in-Ok.ensures c.sort_at.ensures c.in_ok-level.ensures.ok_part
