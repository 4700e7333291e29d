-- `pieces::parameter` meets its contract: refused with the pi, 9 where no argument is left, or the argument replaced in.
-- Assumes nothing.
use Rattle.rows.proofs.HandedOn.{handed_on}
use Rattle.pieces.proofs.Parameters.{parameter_stopped, no_argument_left, may_ask_argument, may_open_argument, parameter_opened}
use Rattle.pieces.proofs.parameter.Goals as goal

pub returns-in_err-pi : goal.returns-in_err-pi
returns-in_err-pi c =
    rw (handed_on c.from_residual.ensures.1) (parameter_stopped _ c.requires.ready c.requires.walking c.args.i c.in_err-pi.ensures)

pub returns-then-count-i : goal.returns-then-count-i
returns-then-count-i c = no_argument_left _ c.requires.ready c.requires.walking c.args.i c.in_ok-pi.ensures c.if-count-i.true

pub argument-a-requires-clause-counted : goal.argument-a-requires-clause-counted
argument-a-requires-clause-counted c = may_ask_argument _ c.requires.ready c.requires.walking c.args.i c.in_ok-pi.ensures

pub opened-requires : goal.opened-requires
opened-requires c = may_open_argument _ c.requires.ready c.requires.walking c.args.i c.in_ok-pi.ensures c.argument-a.ensures

pub returns : goal.returns
returns c = parameter_opened _ c.requires.ready c.requires.walking c.args.i c.in_ok-pi.ensures c.argument-a.ensures c.opened.ensures
