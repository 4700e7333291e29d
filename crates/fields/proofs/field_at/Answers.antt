-- `fields::field_at` meets its contract: no constant, no constructor, too few arguments, or the field.
-- Assumes nothing.
use Rattle.std.proofs.Common.{◌≡◌, Some, rules, arith}
use Rattle.tables.specs.declared.codes.DeclKind.TheVariants.{Constructor}
use Rattle.fields.proofs.Taking.{no_constant_field, no_constructor, no_such_field, the_field, may_take}
use Rattle.fields.proofs.field_at.Goals as goal

pub returns-in_err-d : goal.returns-in_err-d
returns-in_err-d c = rw c.from_residual.ensures (no_constant_field _ _ _ _ c.in_err-d.ensures _)

pub returns-then-ne : goal.returns-then-ne
returns-then-ne c =
    let other : c.in_ok-d.d.kind ≡ Some Constructor → ⊥ = λ e. search rules in
    no_constructor _ _ _ _ _ _ c.in_ok-d.ensures _ other

pub returns-in_err-at : goal.returns-in_err-at
returns-in_err-at c =
    let kind : c.in_ok-d.d.kind ≡ Some Constructor = search rules in
    rw c.from_residual-in_err-at.ensures (no_such_field _ _ _ _ _ _ c.in_ok-d.ensures _ kind (let past = c.in_err-at.ensures in omega arith))

pub returns-then-count-at : goal.returns-then-count-at
returns-then-count-at c =
    let kind : c.in_ok-d.d.kind ≡ Some Constructor = search rules in
    no_such_field _ _ _ _ _ _ c.in_ok-d.ensures _ kind (omega arith)

pub argument-requires : goal.argument-requires
argument-requires c = record { counted = may_take _ _ _ _ _ _ c.in_ok-d.ensures c.requires; i_lt_count = search rules }

pub returns : goal.returns
returns c =
    let kind : c.in_ok-d.d.kind ≡ Some Constructor = search rules in
    the_field _ _ _ _ _ _ c.in_ok-d.ensures _ kind _ c.in_ok-at.ensures.1 _ c.argument.ensures
