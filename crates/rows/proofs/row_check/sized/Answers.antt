-- `rows::row_check::sized` meets its contract: what the children give is compared with what the row records, and with the maxima.
-- Assumes nothing.
use borrow.Author.Rules.{rules}
use mathlib.Core.Path.{◌≡◌, sym, ◌∙◌}
use Rattle.rules.specs.Rows.{cell, cell_at}
use Rattle.rows.specs.Words.{whole}
use Rattle.rows.specs.Checks.{sizes_of}
use Rattle.rows.proofs.Lookup.{children_read, sizes_read, bound_read, height_read}
use Rattle.rows.proofs.RowRules.{other_bound, other_height, right_sizes}
use Rattle.rows.proofs.row_check.sized.Goals as goal
use Rattle.rows.proofs.row_check.sized.Goals.{After-sizes_of-size, After-from, After-from-2}

pub sizes_of-size-requires : goal.sizes_of-size-requires
sizes_of-size-requires c = children_read _ _ _ (search rules) _ c.row_at-row.ensures _ c.shape_of.ensures c.requires.children

-- what the children give, and what the row records
gives : (c : After-sizes_of-size) → c.sizes_of-size.result ≡ sizes_of (cell (whole c.args.library.now c.args.scratch.now)
    (cell_at (whole c.args.library.now c.args.scratch.now) c.args.n).row)
gives c = sizes_read _ _ _ c.requires.stands _ c.row_at-row.ensures _ _ c.shape_of.ensures c.sizes_of-size.ensures

is_bound : (c : After-from) → (cell_at (whole c.args.library.now c.args.scratch.now) c.args.n).bound ≡ c.from.result
is_bound c = bound_read _ _ _ c.requires.stands _ c.row_at-row.ensures _ (c.from.ensures ∙ c.bound_of.ensures)

is_height : (c : After-from-2) → (cell_at (whole c.args.library.now c.args.scratch.now) c.args.n).height ≡ c.from-2.result
is_height c = height_read _ _ _ c.requires.stands _ c.row_at-row.ensures _ (c.from-2.ensures ∙ c.height_of.ensures)

pub returns-then-size-from : goal.returns-then-size-from
returns-then-size-from c =
    let at = goal.at.returns-then-size-from c in
    other_bound _ _ _ (gives at.After-sizes_of-size) _ (is_bound at.After-from) c.if-size-from.true

pub returns-then-size-from-2 : goal.returns-then-size-from-2
returns-then-size-from-2 c =
    let at = goal.at.returns-then-size-from-2 c in
    other_height _ _ _ (gives at.After-sizes_of-size) _ (is_height at.After-from-2) c.if-size-from-2.true

pub returns : goal.returns
returns c =
    let at = goal.at.returns c in
    right_sizes _ _ _ (gives at.After-sizes_of-size) (c.if-size-from.false ∙ sym (is_bound at.After-from))
    (c.if-size-from-2.false ∙ sym (is_height at.After-from-2)) c.within.ensures
