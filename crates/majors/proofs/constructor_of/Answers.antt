-- `majors::constructor_of` meets its contract: a number by its rows, else a constant as it stands.
-- Assumes nothing.
use mathlib.Core.Path.{sym, ap, ◌∙◌}
use Rattle.majors.specs.Majors.{number_in}
use Rattle.majors.proofs.Constructing.{number_is, constant_is}
use Rattle.majors.proofs.constructor_of.Goals as goal

pub returns-in-None : goal.returns-in-None
returns-in-None c =
    let given = c.requires in
    constant_is _ _ _ _ given.used _ given.scope
    (sym (ap number_in c.in-None.is) ∙ c.number_at.ensures.is _ _ _ given.used given.scope) c.constant_made.ensures

pub returns-in-Some : goal.returns-in-Some
returns-in-Some c =
    let given = c.requires in
    number_is _ _ _ _ given.used _ given.scope _
    (sym (ap number_in c.in-Some.is) ∙ c.number_at.ensures.is _ _ _ given.used given.scope) c.number_made.ensures
