-- `rows::writer::push` meets its contract: too large is 8, none free is 5, and past both the nine words are at the mark.
-- Assumes nothing.
use borrow.Author.Rules.{rules}
use native.Mathlib.Omega.{arith}
use mathlib.Core.Path.{refl, ◌∙◌}
use Prim.Native.Nat.{◌*◌}
use borrow.Author.Tests.{not-true}
use Rattle.rows.specs.Checks.{Within}
use Rattle.rows.specs.Writes.{too_large, none_free, at_mark}
use Rattle.rows.proofs.Writing.{pasted}
use Rattle.rows.proofs.writer.push.Goals as goal

pub returns-then-not-small : goal.returns-then-not-small
returns-then-not-small c = too_large (c.within-small.ensures.no (not-true _ c.if-not-small.true-raw))

pub returns-then-scratch-end : goal.returns-then-scratch-end
returns-then-scratch-end c =
    let small : Within c.args.size = search (rules, c.within-small.ensures.yes) in
    none_free small c.if-scratch-end.true

pub overflow_cast-size : goal.overflow_cast-size
overflow_cast-size c =
    let small : Within c.args.size = search (rules, c.within-small.ensures.yes) in
    let size = small in omega arith

pub overflow_cast-size-2 : goal.overflow_cast-size-2
overflow_cast-size-2 c =
    let small : Within c.args.size = search (rules, c.within-small.ensures.yes) in
    let size = small in omega arith

pub returns : goal.returns
returns c =
    let small : Within c.args.size = search (rules, c.within-small.ensures.yes) in
    at_mark small c.if-scratch-end.false refl (pasted _ _ _ (9 * c.args.mark) (c.copy_from_slice.ensures.after ∙ c.nine_words.ensures))
