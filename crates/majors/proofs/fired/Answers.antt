-- `majors::fired` meets its contract: one step more on a term, the refusal handed up.
-- Assumes nothing.
use mathlib.Core.Path.{sym, ap, ◌∙◌}
use Rattle.std.specs.Prelude.{Ok}
use Rattle.state.specs.declared.Meter.{Meter}
use Rattle.state.specs.declared.Tried.TheVariants.{Term}
use Rattle.rows.proofs.HandedOn.{handed_on}
use Rattle.majors.specs.Majors.{answered}
use Rattle.majors.proofs.fired.Goals as goal

pub returns-in_err-p : goal.returns-in_err-p
returns-in_err-p c =
    handed_on c.from_residual.ensures.1 ∙ sym (ap (answered c.args.m) c.in_err-p.was)

pub returns : goal.returns
returns c = ap (λ (x : Meter). Ok (Term c.in_ok-p.p x)) c.stepped.ensures ∙ sym (ap (answered c.args.m) c.in_ok-p.was)
