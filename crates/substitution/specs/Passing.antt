-- The row check in three parts that grow differently: the store is formed, plain words are in range, sizes fit.
-- Shows that the row check gives the three and they give it, and what each asks of a row put at the end. Assumes nothing.
use Rattle.std.specs.Prelude.{ℕ, zero, suc, ◌-◌, ◌≤◌, ◌<◌, List, length, get_or}
use Rattle.std.proofs.Common.{arith, sym, ap, ◌∙◌, subst, length-append}
use Rattle.rules.specs.Maxima.{most_bound}
use Rattle.rules.specs.Kinds.{Kind}
use Rattle.rules.specs.Rows.{Ptr, Row, var, node, Cell, Store, cell_at, row_at, cell, put}
use Rattle.rules.specs.RowCheck.{InRange, sort_in, RowOk, var_ok, node_ok, Fits, AllPass}
use Rattle.rules.specs.Firings.{AllFit, none_left, and_then, Written}
use Rattle.substitution.specs.Places.{Place, below, here, past, place}
use Rattle.substitution.specs.Stores.{FieldsOk, var_fields, node_fields, first_ok, second_ok, third_ok, Formed, ext_put, ext_cell, ext_written}
use Rattle.substitution.specs.Stores.{ext_row, ext_new, no_cell, past_end, end_cell, end_row, by_end, put-length, put_formed}

-- a row's plain words are in range; a variable's index has its range from the row's bound
pub data Worded (D : ℕ) : Row → Type 0 where
  var_worded : {i : ℕ} → Worded D (var i)
  node_worded : {κ : Kind} {x y z : Ptr} → InRange D κ → Worded D (node κ x y z)

-- past the end, too, where sort 0 stands: so nothing need be known of a pointer
pub record AllWorded (D : ℕ) (s : Store) : Type 0 where
  pub each : (n : ℕ) → Worded D (row_at s n)

pub record AllSized (s : Store) : Type 0 where
  pub each : (n : ℕ) → n < length s → Fits (cell_at s n)

-- THE ROW CHECK AND ITS PARTS

pub row_fields : {D : ℕ} {s : Store} {n : ℕ} {w : Row} → RowOk D s n w → FieldsOk s n w
row_fields (var_ok h) = var_fields
row_fields (node_ok h a b c) = node_fields a b c

row_words : {D : ℕ} {s : Store} {n : ℕ} {w : Row} → RowOk D s n w → Worded D w
row_words (var_ok h) = var_worded
row_words (node_ok h a b c) = node_worded h

row_ok : {D : ℕ} {s : Store} {n : ℕ} {w : Row} → FieldsOk s n w → Worded D w → (cell s w).bound ≤ most_bound → RowOk D s n w
unfolding cell
row_ok f (var_worded {i = i}) h = var_ok {i = i} (omega arith)
row_ok f (node_worded r) h = node_ok r (first_ok f) (second_ok f) (third_ok f)

pub pass_formed : {D : ℕ} {s : Store} → AllPass D s → Formed s
pass_formed a = record { each = λ n h. record { fields = row_fields (a.each n h).fields; exact = (a.each n h).exact } }

pub pass_sized : {D : ℕ} {s : Store} → AllPass D s → AllSized s
pass_sized a = record { each = λ n h. (a.each n h).fits }

end_worded : {D : ℕ} (s : Store) (n : ℕ) → length s ≤ n → Worded D (row_at s n)
unfolding no_cell
end_worded {D} s n h = subst (λ (c : Cell). Worded D c.row) (sym (past_end s n h)) (node_worded (sort_in {l = 0} (omega arith)))

pub pass_worded : {D : ℕ} {s : Store} → AllPass D s → AllWorded D s
pass_worded {D} {s} a = record { each = λ n. go n (place n (length s)) }
  where
    go : (n : ℕ) → Place n (length s) → Worded D (row_at s n)
    go n (below h) = row_words (a.each n h).fields
    go n (here h) = end_worded s n (omega arith)
    go n (past h) = end_worded s n (omega arith)

pub all_pass : {D : ℕ} {s : Store} → Formed s → AllWorded D s → AllSized s → AllPass D s
all_pass f w z = record {
  each = λ n h. record {
    fields = row_ok (f.each n h).fields (w.each n) (omega (arith, (z.each n h).bound, ap (λ (c : Cell). c.bound) (f.each n h).exact));
    exact = (f.each n h).exact;
    fits = z.each n h;
  };
}

-- A ROW PUT AT THE END, ROWS WRITTEN

pub put_worded : {D : ℕ} {s : Store} {w : Row} → AllWorded D s → Worded D w → AllWorded D (put s w).store
put_worded {D} {s} {w} a b = record { each = λ n. go n (place n (length s)) }
  where
    go : (n : ℕ) → Place n (length s) → Worded D (row_at (put s w).store n)
    go n (below h) = subst (Worded D) (sym (ext_row (ext_put s (cell s w)) n h)) (a.each n)
    go n (here h) = subst (Worded D) (sym (ap (λ (m : ℕ). row_at (put s w).store m) h ∙ end_row s w)) b
    go n (past h) = end_worded (put s w).store n (omega (arith, put-length s w))

pub put_pass : {D : ℕ} {s : Store} {w : Row} → AllPass D s → FieldsOk s (length s) w → Worded D w → Fits (cell s w) → AllPass D (put s w).store
put_pass {s = s} {w} a o b f = all_pass (put_formed (pass_formed a) o) (put_worded (pass_worded a) b) (record {
  each = by_end {P = λ n. Fits (cell_at (put s w).store n)} s w
      (λ n h. subst Fits (sym (ext_cell (ext_put s (cell s w)) n h)) (a.each n h).fits)
      (subst Fits (sym (end_cell s (cell s w))) f);
})

fits_at : {xs : List Cell} → AllFit xs → (i : ℕ) → i < length xs → Fits (get_or xs i no_cell)
fits_at none_left i h = absurd (omega arith)
fits_at (and_then f fs) zero h = f
fits_at (and_then f fs) (suc i) h = fits_at fs i (omega arith)

-- rows within the sizes, as the rules write them
pub written_sized : {s s' : Store} → AllSized s → Written s s' → AllSized s'
written_sized {s} {s'} z w = record { each = λ n h. go n h (place n (length s)) }
  where
    from : (n : ℕ) → n < length s' → length s ≤ n → Fits (cell_at s' n)
    from n h q =
        subst Fits (sym (ext_new (ext_written w) n q)) (fits_at w.fit (n - length s) (omega (arith, length-append s w.new, ap length w.after)))

    go : (n : ℕ) → n < length s' → Place n (length s) → Fits (cell_at s' n)
    go n h (below q) = subst Fits (sym (ext_cell (ext_written w) n q)) (z.each n q)
    go n h (here q) = from n h (omega arith)
    go n h (past q) = from n h (omega arith)
