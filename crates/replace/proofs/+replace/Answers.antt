-- `replace::replace`, with the two functions that it shares a cycle of calls with, meets its contract; the answers member by member.
-- Assumes nothing.
use borrow.Author.Rules.{rules}
use native.Mathlib.Omega.{arith}
use Prim.Native.Nat.{ℕ}
use mathlib.Core.Path.{◌∙◌}
use Rattle.rows.proofs.HandedOn.{handed_on}
use Rattle.replace.proofs.Fields.{term_done, body_done, term_is_child, body_is_child, child_asked}
use Rattle.replace.proofs.RowParts.{sees, kind_known, index_ready, index_row, field_asked}
use Rattle.replace.proofs.Turns.{opens, One, Two, Three, first_next, first_refused, first_done, second_next, second_refused, second_done}
use Rattle.replace.proofs.Turns.{third_next, third_refused, third_done, new_held, new_due, made_row}
use Rattle.replace.proofs.Pointers.{Inside, pointer_stands, same_done, moved_done, row_ready, goes_inside, inside_refused, rank_falls}
use Rattle.replace.proofs.Pointers.{inside_stands, inside_done}
use Rattle.replace.proofs.+replace.Goals as goal
use Rattle.replace.proofs.+replace.Goals.{on_row-In_ok-q1, on_row-In_ok-q2, on_row-In_ok-q3, replace-After-on_row}

-- ON_FIELD: a plain word stays, a term is replaced in, a body at the next cutoff.

pub on_field-replace-requires : goal.on_field-replace-requires
on_field-replace-requires t c = child_asked _ (omega arith) (term_is_child c.in-Term.is) c.requires c.decreases

pub on_field-returns-in-Term : goal.on_field-returns-in-Term
on_field-returns-in-Term t c = term_done c.in-Term.is c.replace.ensures

pub on_field-replace-requires-in-Body : goal.on_field-replace-requires-in-Body
on_field-replace-requires-in-Body t c = child_asked _ (omega arith) (body_is_child c.in-Body.is) c.requires c.decreases

pub on_field-returns-in-Body : goal.on_field-returns-in-Body
on_field-returns-in-Body t c = body_done c.in-Body.is c.replace-in-Body.ensures

-- ON_ROW: a variable, or its fields in turn and then the new row.

pub on_row-on_index-requires : goal.on_row-on_index-requires
on_row-on_index-requires t c = index_ready (sees c.requires c.row_at.ensures c.shape_of-w.ensures) (c.if-w-into.true ∙ c.into.ensures)

pub on_row-returns-then-w-into : goal.on_row-returns-then-w-into
on_row-returns-then-w-into t c = index_row (sees c.requires c.row_at.ensures c.shape_of-w.ensures) (c.if-w-into.true ∙ c.into.ensures) c.on_index.ensures

pub on_row-field_tag-requires : goal.on_row-field_tag-requires
on_row-field_tag-requires t c = (kind_known c.requires c.row_at.ensures c.shape_of-w.ensures, search rules)

pub on_row-on_field-requires : goal.on_row-on_field-requires
on_row-on_field-requires t c =
    let o = opens c.requires c.row_at.ensures c.shape_of-w.ensures (rw c.into.ensures at c.if-w-into.false) in
    field_asked (first_next o) c.requires c.decreases c.field_tag.ensures

pub on_row-returns-in_err-q1 : goal.on_row-returns-in_err-q1
on_row-returns-in_err-q1 t c =
    let o = opens c.requires c.row_at.ensures c.shape_of-w.ensures (rw c.into.ensures at c.if-w-into.false) in
    rw (handed_on c.from_residual.ensures.1) (first_refused o c.field_tag.ensures c.in_err-q1.ensures)

one_done : (t : ℕ) (c : on_row-In_ok-q1 t) → One c.args.library.now c.args.scratch.now c.args.nlib c.args.mark c.args.row c.args.c c.args.x
    c.shape_of-w.result c.in_ok-q1.q1 c.on_field.new.scratch c.in_ok-q1.m1
one_done t c = first_done (opens c.requires c.row_at.ensures c.shape_of-w.ensures (rw c.into.ensures at c.if-w-into.false)) c.field_tag.ensures c.in_ok-q1.ensures

pub on_row-field_tag-requires-2 : goal.on_row-field_tag-requires-2
on_row-field_tag-requires-2 t c = (kind_known c.requires c.row_at.ensures c.shape_of-w.ensures, search rules)

pub on_row-on_field-requires-2 : goal.on_row-on_field-requires-2
on_row-on_field-requires-2 t c =
    let one = one_done t (goal.at.on_row-on_field-requires-2 t c).In_ok-q1 in
    field_asked (second_next one) c.requires c.decreases c.field_tag-2.ensures

pub on_row-returns-in_err-q2 : goal.on_row-returns-in_err-q2
on_row-returns-in_err-q2 t c =
    let one = one_done t (goal.at.on_row-returns-in_err-q2 t c).In_ok-q1 in
    rw (handed_on c.from_residual-in_err-q2.ensures.1) (second_refused one c.field_tag-2.ensures c.in_err-q2.ensures)

two_done : (t : ℕ) (c : on_row-In_ok-q2 t) → Two c.args.library.now c.args.scratch.now c.args.nlib c.args.mark c.args.row c.args.c c.args.x
    c.shape_of-w.result c.in_ok-q1.q1 c.in_ok-q2.q2 c.on_field-2.new.scratch c.in_ok-q2.m2
two_done t c = second_done (one_done t (goal.at.on_row-In_ok-q2 t c).In_ok-q1) c.field_tag-2.ensures c.in_ok-q2.ensures

pub on_row-field_tag-requires-3 : goal.on_row-field_tag-requires-3
on_row-field_tag-requires-3 t c = (kind_known c.requires c.row_at.ensures c.shape_of-w.ensures, search rules)

pub on_row-on_field-requires-3 : goal.on_row-on_field-requires-3
on_row-on_field-requires-3 t c =
    let two = two_done t (goal.at.on_row-on_field-requires-3 t c).In_ok-q2 in
    field_asked (third_next two) c.requires c.decreases c.field_tag-3.ensures

pub on_row-returns-in_err-q3 : goal.on_row-returns-in_err-q3
on_row-returns-in_err-q3 t c =
    let two = two_done t (goal.at.on_row-returns-in_err-q3 t c).In_ok-q2 in
    rw (handed_on c.from_residual-in_err-q3.ensures.1) (third_refused two c.field_tag-3.ensures c.in_err-q3.ensures)

three_done : (t : ℕ) (c : on_row-In_ok-q3 t) → Three c.args.library.now c.args.scratch.now c.args.nlib c.args.mark c.args.row c.args.c c.args.x
    c.shape_of-w.result c.in_ok-q1.q1 c.in_ok-q2.q2 c.in_ok-q3.q3 c.on_field-3.new.scratch c.in_ok-q3.m3
three_done t c = third_done (two_done t (goal.at.on_row-In_ok-q3 t c).In_ok-q2) c.field_tag-3.ensures c.in_ok-q3.ensures

pub on_row-make-requires-clause-held : goal.on_row-make-requires-clause-held
on_row-make-requires-clause-held t c = new_held (three_done t (goal.at.on_row-make-requires-clause-held t c).In_ok-q3)

pub on_row-make-requires-clause-due : goal.on_row-make-requires-clause-due
on_row-make-requires-clause-due t c = new_due (three_done t (goal.at.on_row-make-requires-clause-due t c).In_ok-q3)

pub on_row-returns : goal.on_row-returns
on_row-returns t c = made_row (three_done t (goal.at.on_row-returns t c).In_ok-q3) c.make.ensures

-- REPLACE: a pointer stays, its shift moves, or its row is replaced in and the result shifted up.

pub replace-ptr_bound-requires : goal.replace-ptr_bound-requires
replace-ptr_bound-requires t c = pointer_stands c.requires

pub replace-returns-then-ptr_bound-from : goal.replace-returns-then-ptr_bound-from
replace-returns-then-ptr_bound-from t c = same_done c.requires c.ptr_bound.ensures (omega arith)

pub replace-returns-then-c-n : goal.replace-returns-then-c-n
replace-returns-then-c-n t c = moved_done c.requires c.ptr_bound.ensures c.count-n.ensures (omega arith) c.if-c-n.true

pub replace-on_row-requires : goal.replace-on_row-requires
replace-on_row-requires t c = (rank_falls _ _ c.decreases, row_ready c.requires)

inside : (t : ℕ) (c : replace-After-on_row t) → Inside c.args.library.now c.args.scratch.now c.args.nlib c.args.mark c.args.p c.args.c c.args.x
inside t c = goes_inside c.requires c.ptr_bound.ensures c.count-n.ensures (omega arith) c.if-c-n.false

pub replace-returns-in_err-q : goal.replace-returns-in_err-q
replace-returns-in_err-q t c =
    rw (handed_on c.from_residual.ensures.1) (inside_refused (inside t (goal.at.replace-returns-in_err-q t c).After-on_row) c.in_err-q.ensures)

pub replace-shift_up-requires-clause-stands : goal.replace-shift_up-requires-clause-stands
replace-shift_up-requires-clause-stands t c =
    inside_stands (inside t (goal.at.replace-shift_up-requires-clause-stands t c).After-on_row) c.in_ok-q.ensures

pub replace-returns : goal.replace-returns
replace-returns t c = inside_done (inside t (goal.at.replace-returns t c).After-on_row) c.in_ok-q.ensures c.shift_up.ensures
