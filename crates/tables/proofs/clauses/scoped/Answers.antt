-- `tables::clauses::scoped` meets its contract: the row's bound decides.
-- Assumes nothing.
use Rattle.std.proofs.Common.{arith}
use Rattle.rows.specs.Words.{ptr_of}
use Rattle.tables.proofs.ClauseTests.{bound_there, closed_scoped, open_scoped}
use Rattle.tables.proofs.clauses.scoped.Goals as goal

pub returns-in-0 : goal.returns-in-0
returns-in-0 c =
    let is_bound = bound_there _ _ _ c.requires _ c.if-rows-p.false _ c.row_at.ensures _ c.bound_of.ensures in
    closed_scoped _ _ _ (ptr_of c.args.p) _ is_bound c.if-rows-p.false c.in-0.is

pub returns-in_default : goal.returns-in_default
returns-in_default c =
    let is_bound = bound_there _ _ _ c.requires _ c.if-rows-p.false _ c.row_at.ensures _ c.bound_of.ensures in
    rw (c.from.ensures, c.from-in_default.ensures, c.from-in_default-2.ensures)
    (open_scoped _ _ _ (ptr_of c.args.p) _ is_bound c.if-rows-p.false (λ e. omega arith))
