-- `majors::made_from` meets its contract: the pointer with its constant, or the refusal handed up.
-- Assumes nothing.
use Prim.Native.Nat.{◌+◌}
use mathlib.Core.Path.{sym, ap, ◌∙◌}
use Rattle.std.specs.Prelude.{Ok, Some}
use Rattle.state.specs.declared.Meter.{Meter}
use Rattle.rows.proofs.HandedOn.{handed_on}
use Rattle.majors.specs.Majors.{made_from}
use Rattle.majors.proofs.made_from.Goals as goal

pub returns-in_err-term : goal.returns-in_err-term
returns-in_err-term c =
    handed_on c.from_residual.ensures.1 ∙ sym (ap (made_from c.args.g c.args.m c.args.constructor c.args.count) c.in_err-term.was)

pub returns : goal.returns
returns c =
    ap (λ (x : Meter). Ok (
      Some (record {
        constructor = c.args.constructor;
        term = c.in_ok-term.term;
        spine = record { head = record { row = c.args.g.nlib + c.args.m.mark; shift = 0 }; count = c.args.count };
      }),
      x,
    )) c.at.ensures
    ∙ sym (ap (made_from c.args.g c.args.m c.args.constructor c.args.count) c.in_ok-term.was)
