-- `replace::on_index` meets its contract: each way out is the course's case for the index. Assumes nothing.
use Rattle.replace.proofs.Indices.{value_stands, value_done, past_value, moves_done}
use Rattle.replace.proofs.on_index.Goals as goal
use Rattle.replace.proofs.on_index.Goals.{in_default-via-in-Some+else-i-c-2, in_default-via-in_default}

pub shift_up-requires-clause-stands : goal.shift_up-requires-clause-stands
shift_up-requires-clause-stands c = value_stands c.requires c.in-Some.is

pub returns-in-Some : goal.returns-in-Some
returns-in-Some c = value_done c.requires c.in-Some.is c.if-i-c-2.true c.shift_up.ensures

pub returns-in_default : goal.returns-in_default
returns-in_default c =
    moves_done c.requires
    (past_value c.requires c.if-i-c.false
    (elim c.in_default.branch [
      | in_default-via-in-Some+else-i-c-2 w ↦ λ v e. w.if-i-c-2.false
      | in_default-via-in_default w ↦ λ v e. absurd (w.in_default.not-Some v e)
    ]))
    c.count.ensures c.make_var.ensures
