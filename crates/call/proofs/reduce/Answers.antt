-- `call::reduce` meets its contract: on accepted input what the cycle answers is what the rules say; after a refusal the rows are zeroed.
-- Assumes nothing.
use native.Mathlib.Omega.{arith}
use Rattle.call.proofs.Ending.{may_reduce, mark_moves, to_term, to_refusal}
use Rattle.call.proofs.reduce.Goals as goal

pub whnf-requires : goal.whnf-requires
whnf-requires c = may_reduce c.requires c.given-g.ensures

pub overflow_sub-result : goal.overflow_sub-result
overflow_sub-result c = omega (arith, mark_moves c.requires c.given-g.ensures c.whnf.ensures c.in-Ok.is)

pub returns-in-Ok : goal.returns-in-Ok
returns-in-Ok c = to_term c.requires c.given-g.ensures c.whnf.ensures c.in-Ok.is

pub returns-in-Err : goal.returns-in-Err
returns-in-Err c =
    rw c.at.ensures (to_refusal c.requires c.given-g.ensures c.whnf.ensures c.in-Err.is c.zero_from.ensures)
