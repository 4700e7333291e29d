-- Acceptance decides: any words and numbers are accepted, as some environment and store, or refused with 1, 2 or 3 and its place.
-- Assumes nothing. That it is one of the two, and in one way, is in crates/safety (Unique).
use Rattle.std.specs.Prelude.{ℕ, ◌+◌, ◌*◌, ◌%◌, ◌≤◌, ◌<◌, ◌≡◌, refl, List, [], ◌∷◌, ◌++◌, length, get_or}
use Rattle.std.proofs.Math.Decide.{dec_le, dec_lt, ℕ_discrete, map_dec}
use Rattle.std.proofs.Common.{arith, sym, ◌∙◌, subst}
use Rattle.std.proofs.Math.Option.{Option, some}
use Rattle.rules.specs.Maxima.{most_rows, most_declarations, most_records, most_rules_in_all, most_steps, most_nesting}
use Rattle.rules.specs.Rows.{Ptr, ptr, Store, cell_at, bound}
use Rattle.rules.specs.RowCheck.{Passes, InScope}
use Rattle.rules.specs.Declarations.{Decl, Entry, Env, nth}
use Rattle.rules.specs.Accepted.{Lent, IsRow, IsDecl, IsEntry, entry_words, IsValue, DeclOk, EntryOk, Sizes, library_rows, row_words, declaration_count}
use Rattle.rules.specs.Accepted.{RowsKept, DeclarationsKept, RecordsKept, Accepted, NotAccepted, no_sizes, a_row, a_declaration, a_record, the_term}
use Rattle.safety.specs.Lists.{nth_there, nth_append}
use Rattle.safety.specs.Words.{entry_same}
use Rattle.decides.specs.Decisions.{needs, dec_implies, dec_there, Found, it_is, finding, provided_that, Decided, all_keep, one_breaks, Decidable}
use Rattle.decides.specs.Decisions.{decide_records}
use Rattle.decides.specs.WordsOut.{written_out}
use Rattle.decides.specs.RowsDecided.{rows_decidable}
use Rattle.decides.specs.DeclsDecided.{parse_value, decls_decidable}

-- CONTEXT RECORDS

five_words : {ws : List ℕ} {x : Entry} → IsEntry ws x → length ws ≡ 5
five_words (entry_words v) = refl

its_value : {ws : List ℕ} {x : Entry} → IsEntry ws x → IsValue (get_or ws 4 0) (get_or ws 2 0) (get_or ws 3 0) x.value
its_value (entry_words v) = v

abbrev entry_of : List ℕ → Option Ptr → Entry
entry_of ws o = record { type = ptr (get_or ws 0 0) (get_or ws 1 0); value = o }

from_value : (ws : List ℕ) {o : Option Ptr} → length ws ≡ 5 → IsValue (get_or ws 4 0) (get_or ws 2 0) (get_or ws 3 0) o → IsEntry ws (entry_of ws o)
from_value ws {o} many v = subst (λ (us : List ℕ). IsEntry us (entry_of ws o)) (sym (written_out 5 ws many)) (entry_words v)

parse_entry : (ws : List ℕ) → Found (IsEntry ws)
parse_entry ws =
    provided_that (ℕ_discrete (length ws) 5) (λ x is. five_words is) λ many.
    finding (parse_value (get_or ws 4 0) (get_or ws 2 0) (get_or ws 3 0)) (λ x. x.value) (λ x is. its_value is) λ o value.
    it_is (entry_of ws o) (from_value ws many value)

in_scope : (s : Store) (d : ℕ) (p : Ptr) → Dec (InScope s d p)
in_scope s d p =
    needs (dec_lt p.row (length s)) (λ i. i.there) λ there.
    needs (dec_implies (ℕ_discrete (cell_at s p.row).bound 0) (ℕ_discrete p.shift 0)) (λ i. i.still) λ still.
    needs (dec_le (bound s p) d) (λ i. i.within) λ within.
    yes (record { there = there; still = still; within = within })

-- both pointers of a record are in scope at its position
record EntryIn (s : Store) (j : ℕ) (x : Entry) : Type 0 where
  type : InScope s j x.type
  value : (v : Ptr) → x.value ≡ some v → InScope s j v

entry_in : (s : Store) (j : ℕ) (x : Entry) → Dec (EntryIn s j x)
entry_in s j x =
    needs (in_scope s j x.type) (λ i. i.type) λ type.
    needs (dec_there {P = InScope s j} (in_scope s j) x.value) (λ i. i.value) λ value.
    yes (record { type = type; value = value })

entry_ok : (s : Store) (xs : List Entry) (j : ℕ) → Dec (EntryOk s xs j)
entry_ok s xs j =
    map_dec (λ i. record { type = λ x q. (i x q).type; value = λ x v q. (i x q).value v }) (λ o x q. record { type = o.type x q; value = λ v. o.value x v q })
    (dec_there {P = EntryIn s j} (entry_in s j) (nth xs j))

-- an element before the last
nth_before : {A : Type 0} {y : A} (xs : List A) (x : A) (j : ℕ) → j < length xs → nth (xs ++ (x ∷ [])) j ≡ some y → nth xs j ≡ some y
nth_before xs x j h q = let old = nth_there xs j x h in old ∙ sym (nth_append xs (x ∷ []) j old) ∙ q

entry_later : (s : Store) (xs : List Entry) (x : Entry) (j : ℕ) → j < length xs → EntryOk s xs j → EntryOk s (xs ++ (x ∷ [])) j
entry_later s xs x j h o = record { type = λ y q. o.type y (nth_before xs x j h q); value = λ y v q. o.value y v (nth_before xs x j h q) }

entries_decidable : (s : Store) → Decidable IsEntry (EntryOk s)
entries_decidable s = record { parse = parse_entry; one = entry_same; ok = entry_ok s; later = entry_later s }

-- SIZES

sizes : (w : Lent) → Dec (Sizes w)
sizes w =
    needs (ℕ_discrete (length w.library % 9) 0) (λ z. z.whole_library) λ whole_library.
    needs (ℕ_discrete (length w.declarations % 16) 0) (λ z. z.whole_declarations) λ whole_declarations.
    needs (ℕ_discrete (length w.rules % 4) 0) (λ z. z.whole_rules) λ whole_rules.
    needs (ℕ_discrete (length w.context % 5) 0) (λ z. z.whole_context) λ whole_context.
    needs (ℕ_discrete (length w.scratch % 9) 0) (λ z. z.whole_scratch) λ whole_scratch.
    needs (dec_le (9 * w.mark) (length w.scratch)) (λ z. z.mark) λ mark.
    needs (dec_le (5 * w.depth) (length w.context)) (λ z. z.depth) λ depth.
    needs (dec_le (length w.library) (9 * most_rows)) (λ z. z.library) λ library.
    needs (dec_le (length w.scratch) (9 * most_rows)) (λ z. z.scratch) λ scratch.
    needs (dec_le (length w.declarations) (16 * most_declarations)) (λ z. z.declarations) λ declarations.
    needs (dec_le (length w.context) (5 * most_records)) (λ z. z.context) λ context.
    needs (dec_le (length w.rules) (4 * most_rules_in_all)) (λ z. z.rules) λ rules.
    needs (dec_le w.steps most_steps) (λ z. z.steps) λ steps.
    needs (dec_le w.nesting most_nesting) (λ z. z.nesting) λ nesting.
    yes (record {
      whole_library = whole_library;
      whole_declarations = whole_declarations;
      whole_rules = whole_rules;
      whole_context = whole_context;
      whole_scratch = whole_scratch;
      mark = mark;
      depth = depth;
      library = library;
      scratch = scratch;
      declarations = declarations;
      context = context;
      rules = rules;
      steps = steps;
      nesting = nesting;
    })

-- THE VERDICT

-- "1, 2, 3 are tested in that order"
pub data Verdict (w : Lent) : Type 0 where
  refused : (number place : ℕ) → (1 ≤ number) × (number ≤ 3) → NotAccepted w number place → Verdict w
  accepted : (e : Env) (s : Store) → Accepted w e s → Verdict w

module _ (w : Lent) (z : Sizes w) where
  on_term : {s : Store} {ds : List Decl} {xs : List Entry} → RowsKept w s → DeclarationsKept w s ds → RecordsKept w s xs →
      Dec (InScope s w.depth w.term) → Verdict w
  on_term {s} {ds} {xs} r d c (yes i) = accepted (record { decls = ds; context = xs }) s (record { sizes = z; rows = r; declarations = d; records = c; term = i })
  on_term r d c (no h) = refused 3 0 (omega arith) (the_term z r d c h)

  on_records : {s : Store} {ds : List Decl} → RowsKept w s → DeclarationsKept w s ds → Decided 5 w.context IsEntry (EntryOk s) w.depth → Verdict w
  on_records {s} r d (all_keep xs c) = on_term r d c (in_scope s w.depth w.term)
  on_records r d (one_breaks j l) = refused 3 j (omega arith) (a_record z r d l)

  on_declarations : {s : Store} → RowsKept w s →
      Decided 16 w.declarations (IsDecl w.rules) (DeclOk w.declarations s (library_rows w)) (declaration_count w) → Verdict w
  on_declarations {s} r (all_keep ds d) = on_records r d (decide_records 5 w.context (entries_decidable s) w.depth)
  on_declarations r (one_breaks j l) = refused 3 j (omega arith) (a_declaration z r l)

  on_rows : Decided 9 (row_words w) IsRow (Passes (declaration_count w)) (library_rows w + w.mark) → Verdict w
  on_rows (all_keep s r) =
      on_declarations r (decide_records 16 w.declarations (decls_decidable w.rules w.declarations s (library_rows w)) (declaration_count w))
  on_rows (one_breaks j l) = refused 2 j (omega arith) (a_row z l)

on_sizes : (w : Lent) → Dec (Sizes w) → Verdict w
on_sizes w (yes z) = on_rows w z (decide_records 9 (row_words w) (rows_decidable (declaration_count w)) (library_rows w + w.mark))
on_sizes w (no h) = refused 1 0 (omega arith) (no_sizes h)

pub acceptance_decides : (w : Lent) → Verdict w
acceptance_decides w = on_sizes w (sizes w)
