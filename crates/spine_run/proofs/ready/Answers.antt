-- It answers yes only where all rows pass and the term is in scope.
use Rattle.std.proofs.Common.{rules, ◌≡◌, is_err, false, refl, sym, ◌∙◌}
use Rattle.std.proofs.lemmas.Bool.{eqb-true}
use Rattle.spine_run.proofs.Asking.{ready_by}
use Rattle.spine_run.proofs.ready.Goals as goal

pub returns-then-bound_of-eq0 : goal.returns-then-bound_of-eq0
returns-then-bound_of-eq0 c =
    let all_pass : is_err c.check_rows.result ≡ false = sym c.is_err.ensures.value ∙ c.if-is_err.false in
    record {
      yes = λ e.
          ready_by _ _ _ _ c.requires c.args.t c.check_rows.ensures all_pass c.if-nlib-mark.false _ c.ptr_bound.ensures
          c.if-ptr_bound-gt4096.false _ c.row_at.ensures _ c.bound_of.ensures (λ _. eqb-true _ 0 e);
    }

pub returns : goal.returns
returns c =
    let all_pass : is_err c.check_rows.result ≡ false = sym c.is_err.ensures.value ∙ c.if-is_err.false in
    record {
      yes = λ _.
          ready_by _ _ _ _ c.requires c.args.t c.check_rows.ensures all_pass c.if-nlib-mark.false _ c.ptr_bound.ensures
          c.if-ptr_bound-gt4096.false _ c.row_at.ensures _ c.bound_of.ensures (λ e. absurd (c.if-bound_of-eq0.false e));
    }
