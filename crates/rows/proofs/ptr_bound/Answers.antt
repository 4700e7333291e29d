-- `rows::ptr_bound` meets its contract: a closed row's pointer has bound 0, any other's is the row's plus the shift.
-- Assumes nothing.
use borrow.Author.Rules.{rules}
use mathlib.Core.Path.{◌≡◌}
use Rattle.rules.specs.Rows.{cell_at}
use Rattle.rows.specs.Words.{ptr_of, whole}
use Rattle.rows.proofs.Lookup.{bound_read, closed_bound, open_bound}
use Rattle.rows.proofs.ptr_bound.Goals as goal

pub returns-then-b-eq0 : goal.returns-then-b-eq0
returns-then-b-eq0 c =
    let is_bound : (cell_at (whole c.args.library.now c.args.scratch.now) c.args.p.row).bound ≡ c.bound_of-b.result = bound_read _ _ _ (search rules) _ c.row_at.ensures _ c.bound_of-b.ensures in
    closed_bound _ (ptr_of c.args.p) _ is_bound c.if-b-eq0.true

pub returns : goal.returns
returns c =
    let is_bound : (cell_at (whole c.args.library.now c.args.scratch.now) c.args.p.row).bound ≡ c.bound_of-b.result = bound_read _ _ _ (search rules) _ c.row_at.ensures _ c.bound_of-b.ensures in
    open_bound _ (ptr_of c.args.p) _ is_bound c.if-b-eq0.false
