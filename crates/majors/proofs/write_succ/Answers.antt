-- `majors::write_succ` meets its contract: three rows in turn, and the first refusal ends it.
-- Assumes nothing.
use Rattle.rows.proofs.InTurn.{done_held}
use Rattle.rows.proofs.HandedOn.{handed_on}
use Rattle.majors.specs.Majors.{succ_in}
use Rattle.majors.proofs.Turns.{then_refused, then_done, two_below}
use Rattle.majors.proofs.write_succ.Goals as goal

pub returns-in_err-f : goal.returns-in_err-f
unfolding succ_in
returns-in_err-f c =
    rw (handed_on c.from_residual.ensures.1) (then_refused _ _ _ _ c.in_err-f.ensures)

pub make_number-requires : goal.make_number-requires
make_number-requires c = done_held _ _ _ _ _ _ _ c.in_ok-f.ensures _ c.requires

pub returns-in_err-a : goal.returns-in_err-a
unfolding succ_in
returns-in_err-a c =
    let first = c.in_ok-f.ensures in
    rw (handed_on c.from_residual-in_err-a.ensures.1) (then_done _ _ _ _ first (then_refused _ _ _ _ (rw first.same_length at c.in_err-a.ensures)))

pub apply_one-requires : goal.apply_one-requires
apply_one-requires c =
    let both = two_below _ _ _ _ _ _ _ _ c.requires c.in_ok-f.ensures c.in_ok-a.ensures in
    record { held = both.0; row_bound = both.1 }

pub returns : goal.returns
unfolding succ_in
returns c =
    let first = c.in_ok-f.ensures in
    let number = c.in_ok-a.ensures in
    then_done _ _ _ _ first
    (then_done _ _ _ _ (rw first.same_length at number) (rw (number.same_length, first.same_length) at c.apply_one.ensures))
