-- `tables::accept::check_decls` meets its contract. The loop's invariant: each declaration passed keeps its rule, and the table has their roles.
-- Assumes nothing.
use Rattle.std.proofs.Common.{refl, arith, below_more}
use Rattle.tables.specs.Clauses.{all_hold, fails_at}
use Rattle.tables.proofs.Roles.{role_says, seen_more}
use Rattle.tables.proofs.accept.check_decls.Goals as goal

pub loop-j-preserved : goal.loop-j-preserved
loop-j-preserved c =
    let role = (role_says _ _ _ _ c.loop-j.invariant.0 c.if-not-role_ok.ensures).yes refl in (
      seen_more _ _ _ _ c.loop-j.invariant.0 role.code refl,
      below_more _ _ c.loop-j.invariant.1 (record { words = c.if-not-decl_ok.ensures.yes refl; role = role }),
    )

pub returns-then-not-decl_ok : goal.returns-then-not-decl_ok
returns-then-not-decl_ok c =
    rw c.at.ensures (fails_at c.loop-j-test.true c.loop-j.invariant.1 (λ keeps. c.if-not-decl_ok.ensures.no refl keeps.words))

pub returns-then-not-role_ok : goal.returns-then-not-role_ok
returns-then-not-role_ok c =
    let says = role_says _ _ _ _ c.loop-j.invariant.0 c.if-not-role_ok.ensures in
    rw c.at-then-not-role_ok.ensures (fails_at c.loop-j-test.true c.loop-j.invariant.1 (λ keeps. says.no refl keeps.role))

pub returns : goal.returns
returns c = all_hold (λ k h. c.loop-j.invariant.1 k (omega arith))
