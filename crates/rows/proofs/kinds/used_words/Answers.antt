-- `rows::kinds::used_words` meets its contract: the code's table is the definition's.
-- Assumes nothing.
use mathlib.Core.Path.{refl}
use Rattle.rows.specs.Checks.{used}
use Rattle.rows.proofs.kinds.used_words.Goals as goal

pub returns : goal.returns
unfolding used
returns c = refl
