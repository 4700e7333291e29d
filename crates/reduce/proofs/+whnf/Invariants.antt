-- The measure: remaining nesting, and a rank. A side reduction has one level less; within a level each call goes down in rank.
use Prim.Native.Nat.{ℕ, ◌+◌, ◌*◌, ◌-◌}
use Rattle.reduce.proofs.Loop.{Going}
use Rattle.reduce.proofs.+whnf.Given as goal

abbrev levels : ℕ → ℕ → ℕ
levels nesting rank = 6 * nesting + rank

abbrev pub decreases-at_head : goal.decreases-at_head
decreases-at_head l = levels l.nesting 4

abbrev pub decreases-constant : goal.decreases-constant
decreases-constant l = levels l.nesting 3

abbrev pub decreases-quot_major : goal.decreases-quot_major
decreases-quot_major l = levels l.nesting 1

abbrev pub decreases-reduce_arith : goal.decreases-reduce_arith
decreases-reduce_arith l = levels l.nesting 1

abbrev pub decreases-reduce_proj : goal.decreases-reduce_proj
decreases-reduce_proj l = levels l.nesting 1

abbrev pub decreases-reduce_quot : goal.decreases-reduce_quot
decreases-reduce_quot l = levels l.nesting 2

abbrev pub decreases-reduce_rec : goal.decreases-reduce_rec
decreases-reduce_rec l = levels l.nesting 1

abbrev pub decreases-side : goal.decreases-side
decreases-side l = levels l.nesting 0

abbrev pub decreases-whnf : goal.decreases-whnf
decreases-whnf l = levels l.nesting 5

abbrev pub invariant-whnf-loop-q : goal.invariant-whnf-loop-q
invariant-whnf-loop-q l = Going l.lent.library.now l.lent.declarations.now l.lent.rules.now l.lent.context.now l.g l.nesting l.initial.scratch l.initial.at l.initial.p l.scratch l.at l.p

-- the steps that are left
abbrev pub decreases-whnf-loop-q : goal.decreases-whnf-loop-q
decreases-whnf-loop-q l = l.g.steps - l.at.steps
