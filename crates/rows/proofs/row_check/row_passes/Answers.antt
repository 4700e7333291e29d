-- `rows::row_check::row_passes` meets its contract: words, fields and sizes are tested in turn.
-- Assumes nothing.
use borrow.Author.Rules.{rules}
use native.Mathlib.Omega.{arith}
use Prim.Native.Nat.{◌<◌}
use borrow.Author.Tests.{not-true, not-false}
use mathlib.Core.Path.{◌≡◌}
use Rattle.rows.specs.Words.{shape_at, words_at}
use Rattle.rows.specs.Checks.{Formed}
use Rattle.rows.proofs.Lookup.{shape_read}
use Rattle.rows.proofs.RightRow.{right_children, not_formed, not_fields, last_sized}
use Rattle.rows.proofs.row_check.row_passes.Goals as goal

pub returns-then-not-formed : goal.returns-then-not-formed
returns-then-not-formed c =
    let is_shape : c.shape_of-w.result ≡ shape_at (words_at c.args.library.now c.args.scratch.now c.args.n) = shape_read _ _ _ (search rules) _ c.row_at.ensures _ c.shape_of-w.ensures in
    not_formed _ _ _ _ (search rules) _ is_shape c.formed.ensures (not-true _ c.if-not-formed.true-raw)

pub fields_ok-requires : goal.fields_ok-requires
fields_ok-requires c =
    let is_formed : Formed c.shape_of-w.result = c.formed.ensures.yes (not-false _ c.if-not-formed.false-raw) in
    record { kind_bound = is_formed.kind; stands = c.requires }

pub returns-then-not-fields_ok : goal.returns-then-not-fields_ok
returns-then-not-fields_ok c =
    let is_shape : c.shape_of-w.result ≡ shape_at (words_at c.args.library.now c.args.scratch.now c.args.n) = shape_read _ _ _ (search rules) _ c.row_at.ensures _ c.shape_of-w.ensures in
    not_fields _ _ _ _ (search rules) _ is_shape c.fields_ok.ensures (not-true _ c.if-not-fields_ok.true-raw)

pub sized-requires : goal.sized-requires
sized-requires c =
    let is_shape : c.shape_of-w.result ≡ shape_at (words_at c.args.library.now c.args.scratch.now c.args.n) = shape_read _ _ _ (search rules) _ c.row_at.ensures _ c.shape_of-w.ensures in
    let is_formed : Formed c.shape_of-w.result = c.formed.ensures.yes (not-false _ c.if-not-formed.false-raw) in
    let stands = c.requires in record { stands = stands; children = right_children _ _ _ _ stands _ is_shape is_formed.kind (c.fields_ok.ensures.yes (not-false _ c.if-not-fields_ok.false-raw)) }

pub returns : goal.returns
returns c =
    let is_shape : c.shape_of-w.result ≡ shape_at (words_at c.args.library.now c.args.scratch.now c.args.n) = shape_read _ _ _ (search rules) _ c.row_at.ensures _ c.shape_of-w.ensures in
    let is_word : c.shape_of-w.result.first.row < 4294967296 = omega arith in
    last_sized _ _ _ _ c.requires _ is_shape is_word
    c.formed.ensures (not-false _ c.if-not-formed.false-raw)
    c.fields_ok.ensures (not-false _ c.if-not-fields_ok.false-raw)
    c.sized.ensures
