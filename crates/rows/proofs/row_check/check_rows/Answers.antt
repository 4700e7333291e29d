-- `rows::row_check::check_rows` meets its contract. The loop's invariant: each row passed is right.
-- Assumes nothing.
use native.Mathlib.Omega.{arith}
use borrow.Author.Count.{below_none, below_more}
use borrow.Author.Tests.{not-true, not-false}
use Rattle.rows.specs.Checks.{all_pass, broken}
use Rattle.rows.proofs.Store.{used_stands}
use Rattle.rows.proofs.KeptRows.{keep_all, lowest}
use Rattle.rows.proofs.row_check.check_rows.Goals as goal

pub loop-n-init : goal.loop-n-init
loop-n-init c = below_none _

pub row_passes-requires : goal.row_passes-requires
row_passes-requires c = used_stands _ _ _ _ c.requires _ c.loop-n-test.true

pub returns-then-not-row_passes : goal.returns-then-not-row_passes
returns-then-not-row_passes c =
    rw c.at.ensures
    (broken (lowest _ _ _ _ _ c.requires _ c.loop-n-test.true c.loop-n.invariant (c.row_passes.ensures.no (not-true _ c.if-not-row_passes.true-raw))))

pub loop-n-preserved : goal.loop-n-preserved
loop-n-preserved c = below_more _ _ c.loop-n.invariant (c.row_passes.ensures.yes (not-false _ c.if-not-row_passes.false-raw))

pub returns : goal.returns
returns c = all_pass (keep_all _ _ _ _ _ c.requires (λ k h. c.loop-n.invariant k (omega arith)))
