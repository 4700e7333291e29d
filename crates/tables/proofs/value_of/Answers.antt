-- `tables::value_of` meets its contract: no record, or the value of the record that the rules name.
-- Assumes nothing.
use mathlib.Core.Path.{ap, ◌∙◌}
use Rattle.rules.specs.Accepted.{part}
use Rattle.tables.proofs.Reading.{no_context, in_record}
use Rattle.tables.proofs.value_of.Goals as goal

pub returns-then-depth-eq0 : goal.returns-then-depth-eq0
returns-then-depth-eq0 c = no_context _ _ _ c.if-depth-eq0.true

pub returns : goal.returns
returns c =
    rw c.value_by.ensures
    (in_record _ _ _ c.if-depth-eq0.false _ (c.record_at-w.ensures ∙ ap (part 5 _) c.record_of.ensures))
