-- `spine::apply` meets its contract. The loop's invariant: the arguments from..i have been applied, one row each.
-- Assumes nothing.
use borrow.Author.Rules.{rules}
use native.Mathlib.Omega.{arith}
use mathlib.Core.Path.{◌≡◌}
use Rattle.std.specs.Prelude.{Err}
use Rattle.spine.proofs.Applying.{none_applied, counted_still, may_apply, applied_next, refused_there, all_applied}
use Rattle.spine.proofs.apply.Goals as goal

pub loop-i-init : goal.loop-i-init
loop-i-init c = none_applied _ _ _ _ _ _ _ _ _ c.requires

pub argument-a-requires : goal.argument-a-requires
argument-a-requires c = record {
  counted = counted_still _ _ _ _ _ _ _ _ _ c.requires _ _ _ _ c.loop-i.invariant;
  i_lt_count = omega (arith, c.requires.inside);
}

pub apply_one-requires : goal.apply_one-requires
apply_one-requires c =
    let both = may_apply _ _ _ _ _ _ _ _ _ c.requires _ _ _ _ c.loop-i.invariant _ c.argument-a.ensures in
    record { held = both.0; row_bound = both.1 }

pub returns-in_err-result : goal.returns-in_err-result
returns-in_err-result c =
    let refused : c.from_residual.result ≡ Err c.in_err-result.field-0.0 = search rules in
    rw refused (refused_there _ _ _ _ _ _ _ _ _ c.requires _ _ _ _ c.loop-i.invariant _ c.argument-a.ensures _ (omega arith) c.in_err-result.ensures)

pub loop-i-preserved : goal.loop-i-preserved
loop-i-preserved c =
    applied_next _ _ _ _ _ _ _ _ _ c.requires _ _ _ _ c.loop-i.invariant _ c.argument-a.ensures _ _ c.in_ok-result.was c.apply_one.ensures

pub returns : goal.returns
returns c = all_applied _ _ _ _ _ _ _ _ _ c.requires _ _ _ _ c.loop-i.invariant (omega arith)
