-- Accepted words are accepted in one way, and refused words with one number and place, never both.
-- Each list of records is read by the same two laws: what keeps its rules is known by its words, and of what breaks them there is one lowest.
-- Assumes nothing.
use Rattle.std.specs.Prelude.{ℕ, ◌+◌, ◌≤◌, ◌<◌, ◌≡◌, refl, List, [], ◌∷◌, ◌++◌, length}
use Rattle.std.proofs.Common.{arith, sym, ap, ◌∙◌, subst, append_assoc, length-append}
use Rattle.std.proofs.Math.Option.{some}
use Rattle.std.proofs.Math.ListN.{get_or-append}
use Rattle.rules.specs.Rows.{Ptr, Row, Cell, Store, row_at, cell}
use Rattle.rules.specs.RowCheck.{ChildOk, FieldOk, plain_ok, term_ok, body_ok, RowOk, var_ok, node_ok, Fits, Passes, InScope}
use Rattle.rules.specs.Kinds.{Tag}
use Rattle.rules.specs.Declarations.{Decl, Entry, Env, nth, decl_at}
use Rattle.rules.specs.Accepted.{Lent, IsRow, IsDecl, IsEntry, DeclOk, EntryOk, Keep, Lowest, library_rows, row_words, declaration_count, RowsKept}
use Rattle.rules.specs.Accepted.{DeclarationsKept, RecordsKept, Accepted, NotAccepted, no_sizes, a_row, a_declaration, a_record, the_term}
use Rattle.substitution.specs.Places.{Place, below, here, past, place}
use Rattle.substitution.specs.Stores.{Ext, ext_cell, ext_new_cell}
use Rattle.substitution.specs.Passing.{row_fields}
use Rattle.safety.specs.Lists.{nth_ext, nth_seam, nth_append, Splits, splits}
use Rattle.safety.specs.Words.{row_same, decl_same, entry_same}

-- RECORDS

-- words stand for at most one record; a record's rule looks at no later record
pub record Reading {A : Type 0} (Is : List ℕ → A → Type 0) (Ok : List A → ℕ → Type 0) : Type 0 where
  pub one : {ws : List ℕ} {x y : A} → Is ws x → Is ws y → x ≡ y
  pub first : (xs ys : List A) (j : ℕ) → j < length xs → Ok (xs ++ ys) j → Ok xs j

pub keep_same : {A : Type 0} {k : ℕ} {ws : List ℕ} {Is : List ℕ → A → Type 0} {Ok Ok' : List A → ℕ → Type 0} {n : ℕ} {xs ys : List A} →
    Reading Is Ok → Keep k ws Is Ok n xs → Keep k ws Is Ok' n ys → xs ≡ ys
keep_same {xs = xs} {ys} r a b = nth_ext xs ys (a.many ∙ sym b.many) λ i x y q q'. r.one (a.words i x q) (b.words i y q')

module _ {A : Type 0} {k : ℕ} {ws : List ℕ} {Is : List ℕ → A → Type 0} {Ok : List A → ℕ → Type 0} (r : Reading Is Ok) where
  -- of records that keep their rules none breaks it
  pub kept_not_lowest : {m n j : ℕ} {xs : List A} → Keep k ws Is Ok m xs → j < m → Lowest k ws Is Ok n j → ⊥
  kept_not_lowest {m} {n} {j} {xs} a h l = on (splits l.lower xs shorter λ i x y q q'. r.one (l.keep.words i x q) (a.words i y q'))
    where
      shorter : length l.lower < length xs
      shorter = omega (arith, h, a.many, l.keep.many)

      on : Splits l.lower xs → ⊥
      on z =
          let x = z.at in
          let here : nth xs j ≡ some x = subst (λ (ys : List A). nth ys j ≡ some x) z.whole (nth_seam l.lower x z.rest j l.keep.many) in
          let whole = append_assoc l.lower (x ∷ []) z.rest ∙ z.whole in
          let upto : Ok ((l.lower ++ (x ∷ [])) ++ z.rest) j = subst (λ (ys : List A). Ok ys j) (sym whole) (a.rules j h) in
          l.breaks x (a.words j x here) (r.first (l.lower ++ (x ∷ [])) z.rest j (omega (arith, length-append l.lower (x ∷ []), l.keep.many)) upto)

  pub lowest_same : {n n' i j : ℕ} → Lowest k ws Is Ok n i → Lowest k ws Is Ok n' j → i ≡ j
  lowest_same {i = i} {j} a b = go (place i j)
    where
      go : Place i j → i ≡ j
      go (below h) = absurd (kept_not_lowest b.keep h a)
      go (here h) = h
      go (past h) = absurd (kept_not_lowest a.keep h b)

-- ROWS

child_first : {s s' : Store} {n : ℕ} {p : Ptr} → Ext s s' → n ≤ length s → ChildOk s' n p → ChildOk s n p
child_first {p = p} e h o = record {
  lower = o.lower;
  still = λ z. o.still (ap (λ (c : Cell). c.bound) (ext_cell e p.row (omega (arith, o.lower))) ∙ z);
}

field_first : {s s' : Store} {n : ℕ} {p : Ptr} {τ : Tag} → Ext s s' → n ≤ length s → FieldOk s' n p τ → FieldOk s n p τ
field_first e h (plain_ok q) = plain_ok q
field_first e h (term_ok o) = term_ok (child_first e h o)
field_first e h (body_ok o) = body_ok (child_first e h o)

row_first : {D : ℕ} {s s' : Store} {n : ℕ} {w : Row} → Ext s s' → n ≤ length s → RowOk D s' n w → RowOk D s n w
row_first e h (var_ok l) = var_ok l
row_first e h (node_ok r a b c) = node_ok r (field_first e h a) (field_first e h b) (field_first e h c)

passes_first : (D : ℕ) (s more : Store) (n : ℕ) → n < length s → Passes D (s ++ more) n → Passes D s n
passes_first D s more n h p =
    let e : Ext s (s ++ more) = record { new = more; after = refl } in
    let same = ext_cell e n h in
    let ok : RowOk D s n (row_at s n) = row_first e (omega arith) (subst (λ (c : Cell). RowOk D (s ++ more) n c.row) same p.fields) in
    record {
      fields = ok;
      exact = sym same ∙ p.exact ∙ ap (λ (c : Cell). cell (s ++ more) c.row) same ∙ ext_new_cell e (omega arith) (row_fields ok);
      fits = subst Fits same p.fits;
    }

pub reading_rows : (D : ℕ) → Reading IsRow (Passes D)
reading_rows D = record { one = row_same; first = passes_first D }

-- DECLARATIONS

decl_append : (ds more : List Decl) (j : ℕ) → j < length ds → decl_at (ds ++ more) j ≡ decl_at ds j
unfolding decl_at
decl_append ds more j h = get_or-append ds more _ j h

decl_first : (words : List ℕ) (s : Store) (L : ℕ) (ds more : List Decl) (j : ℕ) → j < length ds → DeclOk words s L (ds ++ more) j → DeclOk words s L ds j
decl_first words s L ds more j h o = record {
  levels = rw same at o.levels;
  type = rw same at o.type;
  value = rw same at o.value;
  form = rw same at o.form;
  first_holder = rw same at o.first_holder;
}
  where
    same : decl_at (ds ++ more) j ≡ decl_at ds j
    same = decl_append ds more j h

pub reading_decls : (all words : List ℕ) (s : Store) (L : ℕ) → Reading (IsDecl all) (DeclOk words s L)
reading_decls all words s L = record { one = decl_same; first = decl_first words s L }

-- CONTEXT RECORDS

entry_first : (s : Store) (xs more : List Entry) (j : ℕ) → j < length xs → EntryOk s (xs ++ more) j → EntryOk s xs j
entry_first s xs more j h o = record {
  type = λ x q. o.type x (nth_append xs more j q);
  value = λ x v q. o.value x v (nth_append xs more j q);
}

pub reading_entries : (s : Store) → Reading IsEntry (EntryOk s)
reading_entries s = record { one = entry_same; first = entry_first s }

-- ACCEPTED WORDS

module _ (w : Lent) where
  pub rows_same : {s s' : Store} → RowsKept w s → RowsKept w s' → s ≡ s'
  rows_same a b = keep_same (reading_rows (declaration_count w)) a b

  pub accepted_same : {e e' : Env} {s s' : Store} → Accepted w e s → Accepted w e' s' → (e ≡ e') × (s ≡ s')
  accepted_same {s = s} a b =
      let ds = keep_same (reading_decls w.rules w.declarations s (library_rows w)) a.declarations b.declarations in
      let xs = keep_same (reading_entries s) a.records b.records in
      (λ i. record { decls = ds i; context = xs i }, rows_same a.rows b.rows)

-- REFUSED WORDS

abbrev RowBreaks : Lent → ℕ → Type 0
RowBreaks w j = Lowest 9 (row_words w) IsRow (Passes (declaration_count w)) (library_rows w + w.mark) j

abbrev DeclBreaks : Lent → Store → ℕ → Type 0
DeclBreaks w s j = Lowest 16 w.declarations (IsDecl w.rules) (DeclOk w.declarations s (library_rows w)) (declaration_count w) j

abbrev EntryBreaks : Lent → Store → ℕ → Type 0
EntryBreaks w s j = Lowest 5 w.context IsEntry (EntryOk s) w.depth j

-- whatever breaks its rule over the rows of one refusal breaks it over those of another: they are the same rows
module _ (w : Lent) where
  row_breaks : {j : ℕ} {s : Store} → RowBreaks w j → RowsKept w s → ⊥
  row_breaks l r = kept_not_lowest (reading_rows (declaration_count w)) r l.inside l

  decls_over : {s s' : Store} {j : ℕ} → RowsKept w s → RowsKept w s' → DeclBreaks w s j → DeclBreaks w s' j
  decls_over {j = j} r r' l = subst (λ (x : Store). DeclBreaks w x j) (rows_same w r r') l

  entries_over : {s s' : Store} {j : ℕ} → RowsKept w s → RowsKept w s' → EntryBreaks w s j → EntryBreaks w s' j
  entries_over {j = j} r r' l = subst (λ (x : Store). EntryBreaks w x j) (rows_same w r r') l

  decl_breaks : {s s' : Store} {ds : List Decl} {j : ℕ} → RowsKept w s → DeclBreaks w s j → RowsKept w s' → DeclarationsKept w s' ds → ⊥
  decl_breaks {s' = s'} r l r' k = kept_not_lowest (reading_decls w.rules w.declarations s' (library_rows w)) k l.inside (decls_over r r' l)

  entry_breaks : {s s' : Store} {xs : List Entry} {j : ℕ} → RowsKept w s → EntryBreaks w s j → RowsKept w s' → RecordsKept w s' xs → ⊥
  entry_breaks {s' = s'} r l r' k = kept_not_lowest (reading_entries s') k l.inside (entries_over r r' l)

  term_breaks : {s s' : Store} → RowsKept w s → (InScope s w.depth w.term → ⊥) → RowsKept w s' → InScope s' w.depth w.term → ⊥
  term_breaks r f r' i = f (subst (λ (x : Store). InScope x w.depth w.term) (rows_same w r' r) i)

  -- refused or accepted
  pub not_accepted : {k p : ℕ} {e : Env} {s : Store} → NotAccepted w k p → Accepted w e s → ⊥
  not_accepted (no_sizes f) a = f a.sizes
  not_accepted (a_row z l) a = row_breaks l a.rows
  not_accepted (a_declaration z r l) a = decl_breaks r l a.rows a.declarations
  not_accepted (a_record z r d l) a = entry_breaks r l a.rows a.records
  not_accepted (the_term z r d c f) a = term_breaks r f a.rows a.term

  -- with one number and place: one comes first, or both are of one kind and it is the lowest
  pub not_accepted_same : {k k' p p' : ℕ} → NotAccepted w k p → NotAccepted w k' p' → (k ≡ k') × (p ≡ p')
  not_accepted_same (no_sizes f) (no_sizes f') = (refl, refl)
  not_accepted_same (no_sizes f) (a_row z' l') = absurd (f z')
  not_accepted_same (no_sizes f) (a_declaration z' r' l') = absurd (f z')
  not_accepted_same (no_sizes f) (a_record z' r' d' l') = absurd (f z')
  not_accepted_same (no_sizes f) (the_term z' r' d' c' f') = absurd (f z')
  not_accepted_same (a_row z l) (no_sizes f') = absurd (f' z)
  not_accepted_same (a_row z l) (a_row z' l') = (refl, lowest_same (reading_rows (declaration_count w)) l l')
  not_accepted_same (a_row z l) (a_declaration z' r' l') = absurd (row_breaks l r')
  not_accepted_same (a_row z l) (a_record z' r' d' l') = absurd (row_breaks l r')
  not_accepted_same (a_row z l) (the_term z' r' d' c' f') = absurd (row_breaks l r')
  not_accepted_same (a_declaration z r l) (no_sizes f') = absurd (f' z)
  not_accepted_same (a_declaration z r l) (a_row z' l') = absurd (row_breaks l' r)
  not_accepted_same (a_declaration z r l) (a_declaration {s = s'} z' r' l') =
      (refl, lowest_same (reading_decls w.rules w.declarations s' (library_rows w)) (decls_over r r' l) l')
  not_accepted_same (a_declaration z r l) (a_record z' r' d' l') = absurd (decl_breaks r l r' d')
  not_accepted_same (a_declaration z r l) (the_term z' r' d' c' f') = absurd (decl_breaks r l r' d')
  not_accepted_same (a_record z r d l) (no_sizes f') = absurd (f' z)
  not_accepted_same (a_record z r d l) (a_row z' l') = absurd (row_breaks l' r)
  not_accepted_same (a_record z r d l) (a_declaration z' r' l') = absurd (decl_breaks r' l' r d)
  not_accepted_same (a_record z r d l) (a_record {s = s'} z' r' d' l') = (refl, lowest_same (reading_entries s') (entries_over r r' l) l')
  not_accepted_same (a_record z r d l) (the_term z' r' d' c' f') = absurd (entry_breaks r l r' c')
  not_accepted_same (the_term z r d c f) (no_sizes f') = absurd (f' z)
  not_accepted_same (the_term z r d c f) (a_row z' l') = absurd (row_breaks l' r)
  not_accepted_same (the_term z r d c f) (a_declaration z' r' l') = absurd (decl_breaks r' l' r d)
  not_accepted_same (the_term z r d c f) (a_record z' r' d' l') = absurd (entry_breaks r' l' r c)
  not_accepted_same (the_term z r d c f) (the_term z' r' d' c' f') = (refl, refl)
