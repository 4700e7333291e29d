-- `firing::variable` meets its contract: no value, or the value shifted with the arguments applied.
-- Assumes nothing.
use borrow.Author.Rules.{rules}
use Rattle.firing.proofs.Unfolding.{none_unfolds, it_unfolds, no_context_value, may_shift, raised_below, the_context_value}
use Rattle.firing.proofs.variable.Goals as goal

pub returns-in_default : goal.returns-in_default
returns-in_default c = none_unfolds _ _ _ c.requires.headed.used.held.room (no_context_value _ _ _ _ c.value_of.ensures _ c.in_default.is)

pub shift_up-f-requires : goal.shift_up-f-requires
shift_up-f-requires c =
    let both = may_shift _ _ _ _ c.value_of.ensures _ c.in-Some.is _ _ _ _ c.requires.headed.used.held c.requires.has_context in
    record { stands = both.0; k_bound = both.1 }

pub give-requires : goal.give-requires
give-requires c =
    let held = c.requires.headed.used.held in
    let below = raised_below _ _ _ _ c.value_of.ensures _ c.in-Some.is _ _ _ _ held c.requires.has_context _ c.shift_up-f.ensures in
    record { headed = c.requires.headed; row_bound = (below, search rules) }

pub returns : goal.returns
returns c =
    let held = c.requires.headed.used.held in
    it_unfolds _ _ _ _ (the_context_value _ _ _ _ c.value_of.ensures _ c.in-Some.is _ _ _ _ held c.requires.has_context _ c.shift_up-f.ensures) c.give.ensures
