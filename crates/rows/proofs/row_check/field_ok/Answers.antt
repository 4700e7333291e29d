-- `rows::row_check::field_ok` meets its contract: a plain word is no child, and any other field is one.
-- Assumes nothing.
use mathlib.Core.Path.{sym}
use Rattle.rows.proofs.RowRules.{plain_says, child_says}
use Rattle.rows.proofs.Codes.{not_plain}
use Rattle.rows.proofs.row_check.field_ok.Goals as goal

pub returns-in-Plain : goal.returns-in-Plain
returns-in-Plain c = plain_says _ _ _ _ (sym c.in-Plain.ensures)

pub returns-in_default : goal.returns-in_default
returns-in_default c = child_says _ _ _ _ (not_plain c.in_default.not-Plain c.field_tag.ensures) c.child_ok.ensures
