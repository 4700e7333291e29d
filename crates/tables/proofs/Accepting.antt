-- From what the checks say, one after the other, to the rules' words: refused with a number and a place, or accepted.
-- Assumes `Sizes w`, which the first check shows.
use Prim.Native.Nat.{ℕ, ◌+◌, ◌*◌, ◌≤◌, ◌<◌}
use native.Mathlib.Omega.{arith}
use mathlib.Core.Path.{◌≡◌, refl, sym}
use mathlib.Core.Bool.{true, false}
use lib.ListN.{length}
use Rattle.std.specs.Prelude.{Result, Ok, Err, ⊤}
use Rattle.rules.specs.Rows.{Store, cell_at}
use Rattle.rules.specs.Accepted.{Lent, IsDecl, IsEntry, DeclOk, EntryOk, Sizes, library_rows, declaration_count, RowsKept}
use Rattle.rules.specs.Accepted.{DeclarationsKept, RecordsKept, a_row, a_declaration, a_record, the_term}
use Rattle.rows.specs.declared.refusals.Refused.{Refused}
use Rattle.rows.specs.declared.refusals.Refusal.TheVariants.{Table}
use Rattle.rows.specs.Refusals.{refused_at}
use Rattle.rows.specs.Words.{whole, Held}
use Rattle.rows.specs.Checks.{Says, CheckSays, all_pass, broken}
use Rattle.rows.proofs.Store.{cell_used, held_length}
use Rattle.tables.specs.Env.{decl_of, entry_of}
use Rattle.tables.specs.Clauses.{Scoped, DeclKeeps, EntryRight, Upward, all_hold, fails_at}
use Rattle.tables.specs.Verdicts.{env_in, store_in, Accepts, accepted, refused}
use Rattle.tables.proofs.ScopeLaws.{to_scope, from_scope, scoped_agrees}
use Rattle.tables.proofs.DeclLaws.{decls_mean, decl_agrees}
use Rattle.tables.proofs.EntryLaws.{entries_mean, entry_agrees}
use Rattle.tables.proofs.Kept.{Means, keep, lowest}

-- WHAT A CHECK SAYS, by its answer

pub all_of : {P : ℕ → Type 0} {n : ℕ} → Upward P n (Ok tt) → (i : ℕ) → i < n → P i
all_of (all_hold f) = f

module _ {w : Lent} (sizes : Sizes w) where
  abbrev rows : ℕ
  rows = library_rows w + w.mark

  -- what the row check and the clauses are given
  pub held : Held w.library w.scratch w.mark (library_rows w)
  held = record {
    whole_library = omega (arith, sizes.whole_library);
    few = omega (arith, sizes.library);
    whole_scratch = sizes.whole_scratch;
    fewer = sizes.scratch;
    room = sizes.mark;
  }

  pub declarations_there : 16 * declaration_count w ≤ length w.declarations
  declarations_there = omega arith

  -- what a lookup reads below the mark is the row of the store
  read_used : (r : ℕ) → r < rows → cell_at (whole w.library w.scratch) r ≡ cell_at (store_in w) r
  read_used = cell_used w.library w.scratch w.mark (library_rows w) held

  used_read : (r : ℕ) → r < rows → cell_at (store_in w) r ≡ cell_at (whole w.library w.scratch) r
  used_read r h = sym (read_used r h)

  rows_many : rows ≡ length (store_in w)
  rows_many = sym (held_length w.library w.scratch w.mark (library_rows w) held)

  -- ROWS

  abbrev RowsSay : Result ⊤ Refused → Type 0
  RowsSay = CheckSays (declaration_count w) w.library w.scratch w.mark (library_rows w)

  pub rows_kept : RowsSay (Ok tt) → RowsKept w (store_in w)
  rows_kept (all_pass k) = k

  pub a_row_broken : {r : Refused} → RowsSay (Err r) → Accepts w (Err r)
  a_row_broken (broken l) = refused (a_row sizes l)

  -- DECLARATIONS

  abbrev DeclHolds : Store → ℕ → Type 0
  DeclHolds s = DeclKeeps w.declarations w.rules s (library_rows w)

  abbrev DeclsSay : Result ⊤ Refused → Type 0
  DeclsSay = Upward (DeclHolds (whole w.library w.scratch)) (declaration_count w)

  to_store : (j : ℕ) → DeclHolds (whole w.library w.scratch) j → DeclHolds (store_in w) j
  to_store j = decl_agrees (λ r h. read_used r (omega arith)) w.declarations w.rules j

  from_store : (j : ℕ) → DeclHolds (store_in w) j → DeclHolds (whole w.library w.scratch) j
  from_store j = decl_agrees (λ r h. used_read r (omega arith)) w.declarations w.rules j

  decls_are : Means 16 w.declarations (decl_of w.rules) (IsDecl w.rules) (DeclOk w.declarations (store_in w) (library_rows w)) (DeclHolds (store_in w))
      (declaration_count w)
  decls_are = decls_mean w.declarations w.rules (store_in w) (library_rows w) (declaration_count w) declarations_there

  pub declarations_kept : DeclsSay (Ok tt) → DeclarationsKept w (store_in w) (env_in w).decls
  declarations_kept says =
      keep 16 w.declarations (decl_of w.rules) (IsDecl w.rules) (DeclOk w.declarations (store_in w) (library_rows w)) (DeclHolds (store_in w))
      (declaration_count w) (declaration_count w) (omega arith) decls_are (λ i h. to_store i (all_of says i h))

  pub a_declaration_broken : {r : Refused} → RowsKept w (store_in w) → DeclsSay (Err r) → Accepts w (Err r)
  a_declaration_broken kept (fails_at {j} inside lower wrong) =
      refused
      (a_declaration sizes kept
      (lowest 16 w.declarations (decl_of w.rules) (IsDecl w.rules) (DeclOk w.declarations (store_in w) (library_rows w)) (DeclHolds (store_in w))
      (declaration_count w) j inside decls_are (λ i h. to_store i (lower i h)) (λ d. wrong (from_store j d))))

  -- CONTEXT RECORDS

  abbrev EntryHolds : Store → ℕ → Type 0
  EntryHolds s = EntryRight w.context s rows

  abbrev RecordsSay : Result ⊤ Refused → Type 0
  RecordsSay = Upward (EntryHolds (whole w.library w.scratch)) w.depth

  records_are : Means 5 w.context entry_of IsEntry (EntryOk (store_in w)) (EntryHolds (store_in w)) w.depth
  records_are = entries_mean w.context (store_in w) rows rows_many w.depth sizes.depth

  pub records_kept : RecordsSay (Ok tt) → RecordsKept w (store_in w) (env_in w).context
  records_kept says =
      keep 5 w.context entry_of IsEntry (EntryOk (store_in w)) (EntryHolds (store_in w)) w.depth w.depth (omega arith) records_are
      (λ i h. entry_agrees read_used w.context i (all_of says i h))

  pub a_record_broken : {r : Refused} → RowsKept w (store_in w) → DeclarationsKept w (store_in w) (env_in w).decls → RecordsSay (Err r) → Accepts w (Err r)
  a_record_broken kept decls (fails_at {j} inside lower wrong) =
      refused
      (a_record sizes kept decls
      (lowest 5 w.context entry_of IsEntry (EntryOk (store_in w)) (EntryHolds (store_in w)) w.depth j inside records_are
      (λ i h. entry_agrees read_used w.context i (lower i h)) (λ r. wrong (entry_agrees used_read w.context j r))))

  -- THE TERM

  module _ (rows_said : RowsSay (Ok tt)) (decls_said : DeclsSay (Ok tt)) (records_said : RecordsSay (Ok tt)) where
    pub the_term_broken : Says (Scoped (whole w.library w.scratch) rows w.depth w.term) false → Accepts w (Err (refused_at Table 0))
    the_term_broken says =
        refused (the_term sizes (rows_kept rows_said) (declarations_kept decls_said) (records_kept records_said)
        (λ i. says.no refl (scoped_agrees used_read (from_scope rows_many i))))

    pub all_accepted : Says (Scoped (whole w.library w.scratch) rows w.depth w.term) true → Accepts w (Ok tt)
    all_accepted says =
        accepted (record {
          sizes = sizes;
          rows = rows_kept rows_said;
          declarations = declarations_kept decls_said;
          records = records_kept records_said;
          term = to_scope rows_many (scoped_agrees read_used (says.yes refl));
        })
