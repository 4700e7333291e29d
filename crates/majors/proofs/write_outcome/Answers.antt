-- `majors::write_outcome` meets its contract: 4 where no step is left, 7 for a number over two words, else the one row that is due.
-- Assumes nothing.
use borrow.Author.Rules.{rules}
use native.Mathlib.Omega.{arith}
use mathlib.Core.Path.{◌≡◌, sym, ap, ◌∙◌}
use Rattle.std.specs.Prelude.{Ok}
use Rattle.arith.specs.declared.Value.TheVariants.{Number, Truth}
use Rattle.arith.specs.Meaning.{meaning}
use Rattle.tables.specs.Read.{holder_in}
use Rattle.majors.proofs.Outcomes.{out_of_steps, over_two_words, number_left, truth_left}
use Rattle.majors.proofs.write_outcome.Goals as goal

pub returns-then-g-m : goal.returns-then-g-m
returns-then-g-m c = out_of_steps _ _ _ _ _ (omega arith)

pub returns-in-Err : goal.returns-in-Err
returns-in-Err c = over_two_words _ _ _ _ _ (omega arith) (ap meaning c.in-Err.is)

pub returns-in-Ok-Number : goal.returns-in-Ok-Number
returns-in-Ok-Number c =
    let is : c.args.o ≡ Ok (Number c.in-Ok-Number.n) = search rules in
    rw c.fired.ensures (number_left _ _ _ _ _ (omega arith) _ _ (ap meaning is) _ _ c.make_number.ensures)

pub returns-in-Ok-Truth : goal.returns-in-Ok-Truth
returns-in-Ok-Truth c =
    let is : c.args.o ≡ Ok (Truth c.in-Ok-Truth.b) = search rules in
    let held = ap (holder_in c.args.g.holders) (sym c.truth_role.ensures) ∙ sym c.holder.ensures ∙ c.unwrap-holder.ensures in
    rw c.fired-in-Ok-Truth.ensures (truth_left _ _ _ _ _ (omega arith) _ (ap meaning is) _ _ _ held c.make_const.ensures)
