-- `fields::quot_made` meets its contract: no constant, not Quot.mk, another count of arguments, or the third of three.
-- Assumes nothing.
use Rattle.std.proofs.Common.{◌≡◌, Some, rules, arith}
use Rattle.tables.specs.declared.codes.Role.TheVariants.{QuotMk}
use Rattle.fields.proofs.Taking.{no_constant_element, no_quot_mk, other_count, the_element, may_take}
use Rattle.fields.proofs.quot_made.Goals as goal

pub returns-in_err-d : goal.returns-in_err-d
returns-in_err-d c = rw c.from_residual.ensures (no_constant_element _ _ _ _ c.in_err-d.ensures)

pub returns-then-ne : goal.returns-then-ne
returns-then-ne c =
    let other : c.in_ok-d.d.role ≡ Some QuotMk → ⊥ = λ e. search rules in
    no_quot_mk _ _ _ _ _ _ c.in_ok-d.ensures other

pub returns-then-count-ne3 : goal.returns-then-count-ne3
returns-then-count-ne3 c =
    let role : c.in_ok-d.d.role ≡ Some QuotMk = search rules in
    other_count _ _ _ _ _ _ c.in_ok-d.ensures role c.if-count-ne3.true

pub argument-requires : goal.argument-requires
argument-requires c = record { counted = may_take _ _ _ _ _ _ c.in_ok-d.ensures c.requires; i_lt_count = (let e = c.if-count-ne3.false in omega arith) }

pub returns : goal.returns
returns c =
    let role : c.in_ok-d.d.role ≡ Some QuotMk = search rules in
    the_element _ _ _ _ _ _ c.in_ok-d.ensures role c.if-count-ne3.false _ c.argument.ensures
