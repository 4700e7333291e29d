-- `rows::row_check::fields_ok` meets its contract: the plain words' range and the three fields, tested in turn, are the row's rules.
-- Assumes nothing.
use borrow.Author.Rules.{rules}
use borrow.Author.Tests.{not-true, not-false}
use Rattle.rows.proofs.RowRules.{part_fails, last_part}
use Rattle.rows.proofs.row_check.fields_ok.Goals as goal

pub returns-then-not-in_range : goal.returns-then-not-in_range
returns-then-not-in_range c = part_fails _ _ _ _ _ _ _ (search rules) (λ parts. parts.range) c.in_range.ensures (not-true _ c.if-not-in_range.true-raw)

pub returns-then-not-field_ok : goal.returns-then-not-field_ok
returns-then-not-field_ok c = part_fails _ _ _ _ _ _ _ (search rules) (λ parts. parts.first) c.field_ok.ensures (not-true _ c.if-not-field_ok.true-raw)

pub returns-then-not-field_ok-2 : goal.returns-then-not-field_ok-2
returns-then-not-field_ok-2 c = part_fails _ _ _ _ _ _ _ (search rules) (λ parts. parts.second) c.field_ok-2.ensures (not-true _ c.if-not-field_ok-2.true-raw)

pub returns : goal.returns
returns c =
    last_part _ _ _ _ _ _ _ (search rules)
    c.in_range.ensures (not-false _ c.if-not-in_range.false-raw)
    c.field_ok.ensures (not-false _ c.if-not-field_ok.false-raw)
    c.field_ok-2.ensures (not-false _ c.if-not-field_ok-2.false-raw)
    c.field_ok-3.ensures
