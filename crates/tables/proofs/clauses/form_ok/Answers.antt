-- `tables::clauses::form_ok` meets its contract: by kind.
-- Assumes nothing.
use Rattle.std.proofs.Common.{refl, rules}
use Rattle.rows.proofs.Answers.{says_same}
use Rattle.tables.specs.declared.codes.DeclKind.TheVariants.{Plain, Constructor, Recursor, Structure}
use Rattle.tables.proofs.FormTests.{form_says}
use Rattle.tables.proofs.clauses.form_ok.Goals as goal

pub returns-in-Ok-Plain : goal.returns-in-Ok-Plain
returns-in-Ok-Plain c = form_says _ _ _ _ _ Plain _ _ (search rules) c.idle_from.ensures

pub returns-in-Ok-Constructor : goal.returns-in-Ok-Constructor
returns-in-Ok-Constructor c = form_says _ _ _ _ _ Constructor _ _ (search rules) c.idle_from-in-Ok-Constructor.ensures

pub returns-in-Ok-Recursor : goal.returns-in-Ok-Recursor
returns-in-Ok-Recursor c = form_says _ _ _ _ _ Recursor _ _ (search rules) c.recursor_ok.ensures

pub returns-then-idle_from : goal.returns-then-idle_from
returns-then-idle_from c =
    form_says _ _ _ _ _ Structure _ _ (search rules)
    (says_same (λ named. (c.if-idle_from.ensures.yes refl, named)) (λ has. has.1) c.constructor_at.ensures)
