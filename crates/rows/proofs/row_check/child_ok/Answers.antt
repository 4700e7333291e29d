-- `rows::row_check::child_ok` meets its contract: the row is lower, and where it is closed the shift is 0.
-- Assumes nothing.
use mathlib.Core.Path.{sym, ◌∙◌}
use Rattle.rows.proofs.Store.{lower_stands}
use Rattle.rows.proofs.Lookup.{bound_read}
use Rattle.rows.proofs.RowRules.{not_lower, closed_child, open_child}
use Rattle.rows.proofs.row_check.child_ok.Goals as goal

pub returns-then-n-p : goal.returns-then-n-p
returns-then-n-p c = not_lower _ _ _ c.if-n-p.true

pub row_at-requires : goal.row_at-requires
row_at-requires c = lower_stands c.requires c.if-n-p.false

pub returns-then-b-eq0 : goal.returns-then-b-eq0
returns-then-b-eq0 c =
    closed_child _ _ _ c.if-n-p.false
    (bound_read _ _ _ (lower_stands c.requires c.if-n-p.false) _ c.row_at.ensures _ c.bound_of-b.ensures ∙ c.if-b-eq0.true)

pub returns : goal.returns
returns c =
    open_child _ _ _ c.if-n-p.false
    (λ e. c.if-b-eq0.false (sym (bound_read _ _ _ (lower_stands c.requires c.if-n-p.false) _ c.row_at.ensures _ c.bound_of-b.ensures) ∙ e))
