-- `tables::accept::check_entries` meets its contract. The loop's invariant: each record passed is right.
-- Assumes nothing.
use Rattle.std.proofs.Common.{refl, arith}
use Rattle.tables.specs.Clauses.{all_hold, fails_at}
use Rattle.tables.proofs.accept.check_entries.Goals as goal

pub returns-then-not-entry_ok : goal.returns-then-not-entry_ok
returns-then-not-entry_ok c = rw c.at.ensures (fails_at c.loop-j-test.true c.loop-j.invariant (c.if-not-entry_ok.ensures.no refl))

pub returns : goal.returns
returns c = all_hold (λ k h. c.loop-j.invariant k (omega arith))
