-- `firing::unfold_def` meets its contract: no value, another count of levels, or the value with the arguments applied.
-- Assumes nothing.
use borrow.Author.Rules.{rules}
use Rattle.std.proofs.Common.{sym, ◌∙◌}
use Rattle.firing.proofs.Unfolding.{none_unfolds, it_unfolds, no_value, other_levels, the_value}
use Rattle.firing.proofs.unfold_def.Goals as goal

pub returns-in_default : goal.returns-in_default
returns-in_default c = none_unfolds _ _ _ c.requires.headed.used.held.room (no_value c.args.d c.args.levels (sym c.value.ensures ∙ c.in_default.is))

pub returns-then-d-levels : goal.returns-then-d-levels
returns-then-d-levels c = none_unfolds _ _ _ c.requires.headed.used.held.room (other_levels c.args.d c.args.levels c.if-d-levels.true)

pub give-requires : goal.give-requires
give-requires c =
    let given = sym c.value.ensures ∙ c.in-Some.is in
    record { headed = c.requires.headed; row_bound = (rw given at c.requires.row_bound, search rules) }

pub returns : goal.returns
returns c = it_unfolds _ _ _ _ (the_value c.args.d c.args.levels (sym c.value.ensures ∙ c.in-Some.is) c.if-d-levels.false) c.give.ensures
