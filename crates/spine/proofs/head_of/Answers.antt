-- `spine::head_of` meets its contract. The loop's invariant: the walk has come from t to the head so far, with its arguments behind it.
-- The measure is the recorded height of the row that it stands at. Assumes nothing.
use borrow.Author.Rules.{rules}
use borrow.Author.Tests.{eqb-true, eqb-false}
use native.Mathlib.Omega.{arith}
use mathlib.Core.Path.{◌≡◌, sym, ◌∙◌}
use lib.ListN.{get_or}
use Rattle.rows.specs.Words.{words_at}
use Rattle.spine.proofs.Heads.{start, stands, child_there, falls, step, ended}
use Rattle.spine.proofs.head_of.Goals as goal

pub loop-head-init : goal.loop-head-init
loop-head-init c = start _ _ _ c.requires

pub is_app-requires : goal.is_app-requires
is_app-requires c = stands _ _ _ _ _ c.loop-head.invariant

pub child-head-requires : goal.child-head-requires
child-head-requires c =
    let three : get_or (words_at c.args.library.now c.args.scratch.now c.loop-head.head.row) 0 0 ≡ 3 = eqb-true _ 3 (sym c.is_app.ensures ∙ c.loop-head-test.true) in
    record { has_child = child_there _ _ _ _ _ c.loop-head.invariant three; j_bound = search rules }

pub overflow_add-count : goal.overflow_add-count
overflow_add-count c = let low = c.loop-head.invariant.lower in omega arith

pub loop-head-smaller : goal.loop-head-smaller
loop-head-smaller c =
    let three : get_or (words_at c.args.library.now c.args.scratch.now c.loop-head.head.row) 0 0 ≡ 3 = eqb-true _ 3 (sym c.is_app.ensures ∙ c.loop-head-test.true) in
    falls _ _ _ _ _ c.loop-head.invariant three _ c.child-head.ensures

pub loop-head-preserved : goal.loop-head-preserved
loop-head-preserved c =
    let three : get_or (words_at c.args.library.now c.args.scratch.now c.loop-head.head.row) 0 0 ≡ 3 = eqb-true _ 3 (sym c.is_app.ensures ∙ c.loop-head-test.true) in
    step _ _ _ _ _ c.loop-head.invariant three _ c.child-head.ensures

pub returns : goal.returns
returns c = ended _ _ _ _ _ c.loop-head.invariant (eqb-false _ 3 (sym c.is_app.ensures ∙ c.loop-head-test.false))
