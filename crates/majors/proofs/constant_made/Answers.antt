-- `majors::constant_made` meets its contract: the head's row is looked at, and a constant with its arguments stands as it is.
-- Assumes nothing.
use mathlib.Core.Path.{sym, ap, ◌∙◌}
use Rattle.rows.specs.Words.{shape_at}
use Rattle.majors.specs.Majors.{constant_in}
use Rattle.majors.proofs.HeadRows.{head_stands, head_constant, head_no_constant, many_arguments}
use Rattle.majors.proofs.constant_made.Goals as goal

pub row_at-requires : goal.row_at-requires
row_at-requires c = head_stands _ _ _ c.requires _ c.head_of-spine.ensures

pub returns-then-w-into : goal.returns-then-w-into
returns-then-w-into c =
    let walked = c.head_of-spine.ensures in
    let read = c.shape_of-w.ensures ∙ ap shape_at c.row_at.ensures in
    record {
      spined = c.head_of-spine.result;
      is = λ nlib m d used scope. (
        sym (ap (constant_in _ _) (head_no_constant _ _ nlib m d used _ scope _ walked _ read (λ e. c.if-w-into.true (e ∙ sym c.into.ensures)))),
        many_arguments _ _ nlib m d used _ scope _ walked,
      );
    }

pub returns : goal.returns
returns c =
    let walked = c.head_of-spine.ensures in
    let read = c.shape_of-w.ensures ∙ ap shape_at c.row_at.ensures in
    record {
      spined = c.head_of-spine.result;
      is = λ nlib m d used scope. (
        sym (ap (constant_in _ _) (head_constant _ _ nlib m d used _ scope _ walked _ read (c.if-w-into.false ∙ c.into.ensures))),
        many_arguments _ _ nlib m d used _ scope _ walked,
      );
    }
