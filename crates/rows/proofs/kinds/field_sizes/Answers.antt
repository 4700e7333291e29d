-- `rows::kinds::field_sizes` meets its contract: the mark that is read from the table says what the field's row adds.
-- Assumes nothing.
use mathlib.Core.Path.{sym, subst, ◌∙◌}
use Rattle.rules.specs.Kinds.{Tag}
use Rattle.rows.specs.Words.{ptr_of, whole}
use Rattle.rows.specs.Checks.{FieldAdds}
use Rattle.rows.proofs.NineKinds.{term_not_plain, body_not_plain}
use Rattle.rows.proofs.Sizes.{plain_adds, inside_adds}
use Rattle.rows.proofs.kinds.field_sizes.Goals as goal

pub returns-in-Plain : goal.returns-in-Plain
returns-in-Plain c = plain_adds _ _ _ (sym c.in-Plain.ensures)

pub child_sizes-requires : goal.child_sizes-requires
child_sizes-requires c = c.requires.stands (λ e. term_not_plain (c.in-Term.ensures ∙ e))

pub returns-in-Term : goal.returns-in-Term
returns-in-Term c =
    subst (λ (t : Tag). FieldAdds (whole c.args.library.now c.args.scratch.now) t (ptr_of c.args.p) c.child_sizes.result)
    c.in-Term.ensures c.child_sizes.ensures

pub child_sizes-inside-requires : goal.child_sizes-inside-requires
child_sizes-inside-requires c = c.requires.stands (λ e. body_not_plain (c.in-Body.ensures ∙ e))

pub returns-in-Body : goal.returns-in-Body
returns-in-Body c = inside_adds _ _ _ _ _ c.child_sizes-inside.ensures c.saturating_sub.ensures (sym c.in-Body.ensures)
