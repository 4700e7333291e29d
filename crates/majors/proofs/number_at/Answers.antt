-- `majors::number_at` meets its contract: a row of the kind number is a number with no arguments, and any other row is none.
-- Assumes nothing.
use mathlib.Core.Path.{sym, ap, ◌∙◌}
use Rattle.rows.specs.Words.{shape_at}
use Rattle.majors.proofs.HeadRows.{walk_stands, is_number, is_no_number}
use Rattle.majors.proofs.number_at.Goals as goal

pub row_at-requires : goal.row_at-requires
row_at-requires c = walk_stands _ _ _ c.requires

pub returns-then-w-into : goal.returns-then-w-into
returns-then-w-into c =
    let read = c.shape_of-w.ensures ∙ ap shape_at c.row_at.ensures in
    record { is = λ nlib m d used scope. is_number _ _ nlib m d used _ scope _ read (c.if-w-into.true ∙ c.into.ensures) }

pub returns : goal.returns
returns c =
    let read = c.shape_of-w.ensures ∙ ap shape_at c.row_at.ensures in
    record { is = λ nlib m d used scope. is_no_number _ _ nlib m d used _ scope _ read (λ e. c.if-w-into.false (e ∙ sym c.into.ensures)) }
