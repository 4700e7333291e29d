-- The words that an answered call leaves are accepted again, as the same environment and the grown store, with the answer for the term: "every new row
-- passing the row check". Assumes accepted words, and nothing else.
use Rattle.std.specs.Prelude.{ℕ, suc, ◌+◌, ◌*◌, ◌-◌, ◌%◌, ◌≤◌, ◌<◌, ◌≡◌, refl, List, ◌++◌, length, get_or, take, drop}
use Rattle.std.proofs.Common.{arith, sym, ap, ◌∙◌, subst, ⊎_elim, length-take, length-drop}
use Rattle.std.proofs.Math.Option.{some}
use Rattle.rules.specs.Rows.{Ptr, Cell, Store}
use Rattle.rules.specs.RowCheck.{Passes}
use Rattle.rules.specs.Declarations.{Form, Decl, Entry, Env, nth}
use Rattle.rules.specs.Accepted.{Lent, IsRow, var_row, sort_row, const_row, app_row, lam_row, pi_row, let_row, proj_row, num_row, part}
use Rattle.rules.specs.Accepted.{Closed, FormOk, plain_ok, constructor_ok, recursor_ok, structure_ok, DeclOk, EntryOk, Sizes, library_rows, Accepted}
use Rattle.rules.specs.Call.{Left}
use Rattle.substitution.specs.Stores.{Ext, ext_length, ext_cell, no_cell}
use Rattle.safety.specs.Lists.{nth_inside, nth_append, some_same, nth_there}
use Rattle.safety.specs.Sane.{in_later}
use Rattle.rows.proofs.Parts.{lt_or_ge, part_of_take, part_same, part_left, part_right}
use Rattle.demands.specs.OnCall.{TermHolds}

-- the same call over the words that are left, asking for t
abbrev pub after : Lent → Left → Ptr → Lent
after w l t = record {
  library = w.library;
  declarations = w.declarations;
  rules = w.rules;
  context = w.context;
  depth = w.depth;
  scratch = l.scratch;
  mark = l.mark;
  term = t;
  steps = w.steps;
  nesting = w.nesting;
}

-- a row is nine words
row_nine : {ws : List ℕ} {x : Cell} → IsRow ws x → length ws ≡ 9
row_nine var_row = refl
row_nine sort_row = refl
row_nine const_row = refl
row_nine app_row = refl
row_nine lam_row = refl
row_nine pi_row = refl
row_nine let_row = refl
row_nine proj_row = refl
row_nine (num_row h q) = refl

-- a part that has nine words ends within the list
nine_inside : (ws : List ℕ) (i : ℕ) → length (part 9 ws i) ≡ 9 → 9 * i + 9 ≤ length ws
nine_inside ws i q = omega (arith, q, length-take 9 (drop (9 * i) ws), length-drop (9 * i) ws)

-- DECLARATIONS AND RECORDS over the grown store
module _ {s s₁ : Store} (x : Ext s s₁) (L : ℕ) (inside : L ≤ length s) where
  closed_on : {p : Ptr} → Closed s L p → Closed s₁ L p
  closed_on {p} c = record {
    there = c.there;
    closed = ap (λ (y : Cell). y.bound) (ext_cell x p.row (omega (arith, c.there))) ∙ c.closed;
    still = c.still;
  }

  form_on : {ws : List ℕ} {f : Form} → FormOk ws s L f → FormOk ws s₁ L f
  form_on plain_ok = plain_ok
  form_on constructor_ok = constructor_ok
  form_on (recursor_ok c v) = recursor_ok c (λ i ρ q. closed_on (v i ρ q))
  form_on (structure_ok c) = structure_ok c

  decl_on : {ws : List ℕ} {ds : List Decl} {j : ℕ} → DeclOk ws s L ds j → DeclOk ws s₁ L ds j
  decl_on o = record {
    levels = o.levels;
    type = closed_on o.type;
    value = λ v q. closed_on (o.value v q);
    form = form_on o.form;
    first_holder = o.first_holder;
  }

  entry_on : {xs : List Entry} {j : ℕ} → EntryOk s xs j → EntryOk s₁ xs j
  entry_on o = record { type = λ y q. in_later x (o.type y q); value = λ y v q r. in_later x (o.value y v q r) }

module _ {w : Lent} {e : Env} {s : Store} {t : Ptr} {k n : ℕ} {l : Left} (a : Accepted w e s) (h : TermHolds w e s t k n l) where
  abbrev s₁ : Store
  s₁ = h.store

  abbrev L : ℕ
  L = library_rows w

  rows_before : length s ≡ L + w.mark
  rows_before = a.rows.many

  more_rows : length s ≤ length s₁
  more_rows = omega (arith, ext_length h.untouched)

  rows_after : length s₁ ≡ L + l.mark
  rows_after = omega (arith, h.left.mark, rows_before, more_rows)

  -- the new mark lies in the scratch
  in_scratch : 9 * l.mark ≤ length w.scratch
  in_scratch = omega (arith, h.answered.within.rows, rows_after)

  -- a new row stands in nine words
  new_row : (j : ℕ) → w.mark + j < l.mark → IsRow (part 9 l.scratch (w.mark + j)) (get_or s₁ (length s + j) no_cell)
  new_row j below = h.left.rows j _ (nth_there s₁ (length s + j) no_cell (omega (arith, rows_before, rows_after)))

  -- so the scratch is as long as it was
  scratch_holds : 9 * l.mark ≤ length l.scratch
  scratch_holds = ⊎_elim grown as_lent (lt_or_ge w.mark l.mark)
    where
      grown : w.mark < l.mark → 9 * l.mark ≤ length l.scratch
      grown more =
          let j = l.mark - suc w.mark in
          let place : w.mark + j ≡ l.mark - 1 = omega arith in
          let inside = nine_inside l.scratch (w.mark + j) (row_nine (new_row j (omega arith))) in
          omega arith

      as_lent : l.mark ≤ w.mark → 9 * l.mark ≤ length l.scratch
      as_lent same =
          omega
          (arith, length-take (9 * w.mark) l.scratch, length-take (9 * w.mark) w.scratch, ap length h.left.kept, a.sizes.mark)

  same_scratch : length l.scratch ≡ length w.scratch
  same_scratch =
      omega
      (arith, length-drop (9 * l.mark) l.scratch, length-drop (9 * l.mark) w.scratch, ap length h.left.past, scratch_holds, in_scratch)

  sizes_after : Sizes (after w l t)
  sizes_after = let z = a.sizes in record {
    whole_library = z.whole_library;
    whole_declarations = z.whole_declarations;
    whole_rules = z.whole_rules;
    whole_context = z.whole_context;
    whole_scratch = ap (λ (m : ℕ). m % 9) same_scratch ∙ z.whole_scratch;
    mark = scratch_holds;
    depth = z.depth;
    library = z.library;
    scratch = omega (arith, same_scratch, z.scratch);
    declarations = z.declarations;
    context = z.context;
    rules = z.rules;
    steps = z.steps;
    nesting = z.nesting;
  }

  -- THE ROWS: the old ones stand in the words that they had, the new ones in those past the old mark
  library_rows_lem : length w.library ≡ 9 * L
  library_rows_lem = omega (arith, a.sizes.whole_library)

  up_mark : w.mark ≤ l.mark
  up_mark = omega (arith, rows_before, rows_after, more_rows)

  scratch_part : (ws : List ℕ) (m j : ℕ) → j < m → part 9 (w.library ++ take (9 * m) ws) (L + j) ≡ part 9 ws j
  scratch_part ws m j below = part_right w.library (take (9 * m) ws) L j library_rows_lem ∙ part_of_take ws m j below

  old_part : (i : ℕ) → i < length s → part 9 (w.library ++ take (9 * w.mark) w.scratch) i ≡ part 9 (w.library ++ take (9 * l.mark) l.scratch) i
  old_part i below = ⊎_elim in_library in_old (lt_or_ge i L)
    where
      in_library : i < L → part 9 (w.library ++ take (9 * w.mark) w.scratch) i ≡ part 9 (w.library ++ take (9 * l.mark) l.scratch) i
      in_library inside =
          let room : 9 * i + 9 ≤ length w.library = omega (arith, library_rows_lem) in
          part_left w.library (take (9 * w.mark) w.scratch) i room ∙ sym (part_left w.library (take (9 * l.mark) l.scratch) i room)

      in_old : L ≤ i → part 9 (w.library ++ take (9 * w.mark) w.scratch) i ≡ part 9 (w.library ++ take (9 * l.mark) l.scratch) i
      in_old past =
          let j = i - L in
          let place : i ≡ L + j = omega arith in
          let low : j < w.mark = omega (arith, rows_before) in
          rw place
          (scratch_part w.scratch w.mark j low
          ∙ part_same w.scratch l.scratch w.mark j (sym h.left.kept) low
          ∙ sym (scratch_part l.scratch l.mark j (omega (arith, up_mark))))

  row_words : (i : ℕ) (x : Cell) → nth s₁ i ≡ some x → IsRow (part 9 (w.library ++ take (9 * l.mark) l.scratch) i) x
  row_words i x found = ⊎_elim old new (lt_or_ge i (length s))
    where
      old : i < length s → IsRow (part 9 (w.library ++ take (9 * l.mark) l.scratch) i) x
      old below =
          let there = nth_there s i no_cell below in
          let later : nth s₁ i ≡ some (get_or s i no_cell) =
          subst (λ (y : Store). nth y i ≡ some (get_or s i no_cell)) h.untouched.after (nth_append s h.untouched.new i there) in
          let same : get_or s i no_cell ≡ x = some_same (sym later ∙ found) in
          subst (λ (ws : List ℕ). IsRow ws x) (old_part i below) (subst (IsRow (part 9 (w.library ++ take (9 * w.mark) w.scratch) i)) same (a.rows.words i _ there))

      new : length s ≤ i → IsRow (part 9 (w.library ++ take (9 * l.mark) l.scratch) i) x
      new past =
          let j = i - length s in
          let place : i ≡ L + (w.mark + j) = omega (arith, rows_before) in
          let before : length s + j ≡ i = omega arith in
          let inside = nth_inside s₁ i found in
          let row : IsRow (part 9 l.scratch (w.mark + j)) x = h.left.rows j x (ap (nth s₁) before ∙ found) in
          rw place (subst (λ (ws : List ℕ). IsRow ws x) (sym (scratch_part l.scratch l.mark (w.mark + j) (omega (arith, rows_after)))) row)

  -- ACCEPTED AGAIN
  pub left_accepted : Accepted (after w l t) e s₁
  left_accepted = record {
    sizes = sizes_after;
    rows = record {
      many = rows_after;
      words = row_words;
      rules = λ i below. subst (λ (D : ℕ). Passes D s₁ i) a.declarations.many (h.new_rows_pass.each i (omega (arith, rows_after)));
    };
    declarations = record {
      many = a.declarations.many;
      words = a.declarations.words;
      rules = λ j below. decl_on h.untouched L (omega (arith, rows_before)) (a.declarations.rules j below);
    };
    records = record {
      many = a.records.many;
      words = a.records.words;
      rules = λ j below. entry_on h.untouched L (omega (arith, rows_before)) (a.records.rules j below);
    };
    term = h.in_scope;
  }
