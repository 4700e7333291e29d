-- `rows::row_check::in_range` meets its contract: each kind with plain words has its range, and the others have any words.
-- Assumes nothing.
use borrow.Author.Rules.{rules}
use mathlib.Core.Path.{sym}
use Rattle.rows.specs.declared.kinds.Kind.TheVariants.{Variable, Sort, Constant, Projection}
use Rattle.rows.proofs.Codes.{not_code}
use Rattle.rows.proofs.RowRules.{var_range, sort_range, const_range, const_unknown, proj_range, other_range}
use Rattle.rows.proofs.row_check.in_range.Goals as goal

pub returns-in-Variable : goal.returns-in-Variable
returns-in-Variable c = var_range _ _ _ _ _ (sym c.in-Variable.ensures)

pub returns-in-Sort : goal.returns-in-Sort
returns-in-Sort c = sort_range _ _ _ _ _ (sym c.in-Sort.ensures)

pub returns-then-w-declarations : goal.returns-then-w-declarations
returns-then-w-declarations c = const_range _ _ _ _ _ (sym c.in-Constant.ensures) c.if-w-declarations.true

pub returns-else-w-declarations : goal.returns-else-w-declarations
returns-else-w-declarations c = const_unknown _ _ _ _ _ (sym c.in-Constant.ensures) c.if-w-declarations.false

pub returns-in-Projection : goal.returns-in-Projection
returns-in-Projection c = proj_range _ _ _ _ _ (sym c.in-Projection.ensures)

pub returns-in_default : goal.returns-in_default
returns-in_default c =
    let code = c.known.ensures in
    let other = c.in_default in
    other_range _ _ _ _ _ (search rules) (search rules) c.requires
    (not_code Variable other.not-Variable code)
    (not_code Sort other.not-Sort code)
    (not_code Constant other.not-Constant code)
    (not_code Projection other.not-Projection code)
