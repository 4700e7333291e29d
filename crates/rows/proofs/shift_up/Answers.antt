-- `rows::shift_up` meets its contract: a closed row's pointer stays, any other's shift is raised.
-- Assumes nothing.
use borrow.Author.Rules.{rules}
use mathlib.Core.Path.{◌≡◌}
use Rattle.rules.specs.Rows.{cell_at}
use Rattle.rows.specs.Words.{ptr_of, whole}
use Rattle.rows.proofs.Lookup.{bound_read, closed_up, open_up}
use Rattle.rows.proofs.shift_up.Goals as goal

pub returns-then-b-eq0 : goal.returns-then-b-eq0
returns-then-b-eq0 c =
    let is_bound : (cell_at (whole c.args.library.now c.args.scratch.now) c.args.p.row).bound ≡ c.bound_of-b.result = bound_read _ _ _ (search rules) _ c.row_at.ensures _ c.bound_of-b.ensures in
    closed_up _ (ptr_of c.args.p) _ is_bound _ c.if-b-eq0.true

pub returns : goal.returns
returns c =
    let is_bound : (cell_at (whole c.args.library.now c.args.scratch.now) c.args.p.row).bound ≡ c.bound_of-b.result = bound_read _ _ _ (search rules) _ c.row_at.ensures _ c.bound_of-b.ensures in
    open_up _ (ptr_of c.args.p) _ is_bound _ c.if-b-eq0.false
