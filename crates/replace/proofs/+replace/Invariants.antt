-- The measure: three times the recorded height, and a rank. A row's fields are lower than the row; a pointer's row is no higher.
use Prim.Native.Nat.{◌+◌, ◌*◌}
use Rattle.rules.specs.Rows.{field_height}
use Rattle.rows.specs.Words.{ptr_of, store_of}
use Rattle.rows.specs.Kinds.{tag_of}
use Rattle.replace.specs.Replaced.{height_of}
use Rattle.replace.proofs.+replace.Given as goal

abbrev pub decreases-on_field : goal.decreases-on_field
decreases-on_field l = 3 * field_height (store_of l.library.now l.scratch.now l.mark) (tag_of l.tag) (ptr_of l.p) + 2

abbrev pub decreases-on_row : goal.decreases-on_row
decreases-on_row l = 3 * height_of l.library.now l.scratch.now l.mark l.row

abbrev pub decreases-replace : goal.decreases-replace
decreases-replace l = 3 * height_of l.library.now l.scratch.now l.mark l.p.row + 1
