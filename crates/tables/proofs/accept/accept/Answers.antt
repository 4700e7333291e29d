-- `tables::accept::accept` meets its contract: refused with the rules' number and place at the first check that says no, else accepted.
-- Assumes nothing.
use Rattle.std.proofs.Common.{refl}
use Rattle.std.proofs.lemmas.Result.{err_from_is_err_and}
use Rattle.rules.specs.Accepted.{no_sizes}
use Rattle.tables.specs.Verdicts.{refused}
use Rattle.tables.proofs.Accepting.{rows_kept, a_row_broken, declarations_kept, a_declaration_broken, a_record_broken, the_term_broken, all_accepted}
use Rattle.tables.proofs.accept.accept.Goals as goal

pub returns-then-not-sizes_ok : goal.returns-then-not-sizes_ok
returns-then-not-sizes_ok c = rw c.at.ensures (refused (no_sizes (c.if-not-sizes_ok.ensures.no refl)))

pub returns-in-Err : goal.returns-in-Err
returns-in-Err c = a_row_broken (c.if-not-sizes_ok.ensures.yes refl) (rw c.in-Err.is at c.check_rows.ensures)

pub returns-in_err-check_decls : goal.returns-in_err-check_decls
returns-in_err-check_decls c =
    let sizes = c.if-not-sizes_ok.ensures.yes refl in
    let rows = rows_kept sizes (rw c.in_default.is at c.check_rows.ensures) in
    let p = err_from_is_err_and c.from_residual.result c.from_residual.ensures.1 in
    rw (p.1, p.2) (a_declaration_broken sizes rows c.in_err-check_decls.ensures)

pub returns-in_err-check_entries : goal.returns-in_err-check_entries
returns-in_err-check_entries c =
    let sizes = c.if-not-sizes_ok.ensures.yes refl in
    let rows = rows_kept sizes (rw c.in_default.is at c.check_rows.ensures) in
    let decls = declarations_kept sizes c.in_ok-check_decls.ensures in
    let p = err_from_is_err_and c.from_residual-in_err-check_entries.result c.from_residual-in_err-check_entries.ensures.1 in
    rw (p.1, p.2) (a_record_broken sizes rows decls c.in_err-check_entries.ensures)

pub returns-then-not-scoped : goal.returns-then-not-scoped
returns-then-not-scoped c =
    let sizes = c.if-not-sizes_ok.ensures.yes refl in
    let rows = rw c.in_default.is at c.check_rows.ensures in
    rw c.at-then-not-scoped.ensures
    (the_term_broken sizes rows c.in_ok-check_decls.ensures c.in_ok-check_entries.ensures c.if-not-scoped.ensures)

pub returns : goal.returns
returns c =
    let sizes = c.if-not-sizes_ok.ensures.yes refl in
    let rows = rw c.in_default.is at c.check_rows.ensures in
    all_accepted sizes rows c.in_ok-check_decls.ensures c.in_ok-check_entries.ensures c.if-not-scoped.ensures
