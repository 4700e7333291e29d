-- `rows::kinds::sizes_of` meets its contract: a variable's sizes are its own, any other row's are the largest that its fields add.
-- Assumes nothing.
use mathlib.Core.Path.{◌∙◌}
use Rattle.rows.specs.Words.{ptr_of}
use Rattle.rows.proofs.Sizes.{var_sizes, largest_sizes}
use Rattle.rows.proofs.kinds.sizes_of.Goals as goal

pub returns-then-w-into : goal.returns-then-w-into
returns-then-w-into c = rw c.from.ensures (var_sizes _ _ _ (ptr_of c.args.w.second) (ptr_of c.args.w.third) (c.if-w-into.true ∙ c.into.ensures))

pub returns : goal.returns
returns c =
    largest_sizes _ _ _ _ _ _ _ _ _ _ _ _ c.requires.kind (rw c.into.ensures at c.if-w-into.false)
    c.max.ensures c.max-2.ensures c.max-3.ensures c.max-4.ensures
    c.field_sizes-x.ensures c.field_sizes-y.ensures c.field_sizes-z.ensures
