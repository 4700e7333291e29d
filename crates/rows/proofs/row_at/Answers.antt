-- `rows::row_at` meets its contract: the nine words are those of the row where it stands, in the library or in the scratch.
-- Assumes nothing.
use mathlib.Core.Path.{◌∙◌}
use Rattle.rows.proofs.Lookup.{read_library, read_scratch}
use Rattle.rows.proofs.row_at.Goals as goal

pub returns-then-at-library : goal.returns-then-at-library
returns-then-at-library c = c.record_at.ensures ∙ read_library _ _ _ c.if-at-library.true

pub returns-else-at-library : goal.returns-else-at-library
returns-else-at-library c = c.record_at-else-at-library.ensures ∙ read_scratch _ _ _ c.if-at-library.false
