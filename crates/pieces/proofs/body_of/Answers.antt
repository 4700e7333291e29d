-- `pieces::body_of` meets its contract: the body as it stands where the shift is 0, else what replacement wrote.
-- Assumes nothing.
use mathlib.Core.Path.{refl}
use Rattle.pieces.specs.Leaves.{as_it_stands, moved}
use Rattle.pieces.proofs.body_of.Goals as goal

pub returns-then-by-eq0 : goal.returns-then-by-eq0
returns-then-by-eq0 c = as_it_stands c.if-by-eq0.true refl refl

pub returns : goal.returns
returns c = moved c.if-by-eq0.false c.opened.ensures
