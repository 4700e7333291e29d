-- Laws of stores: formed ones, what a store grown at its end keeps, a row put at the end, a pointer shifted up.
-- `Formed` is the row check without ranges and sizes. Replacement keeps it also where a row that it writes does not fit, so the
-- laws ask for no more; Passing.antt has its link to the row check. Assumes nothing.
use Rattle.std.specs.Prelude.{ℕ, zero, suc, ◌-◌, ◌≤◌, ◌<◌, pred, max, ◌≡◌, refl, List, [], ◌∷◌, ◌++◌, length, get_or}
use Rattle.std.proofs.Common.{le_refl, arith, sym, ap, ◌∙◌, subst, append_assoc, append-nil, length-append, get_or-append-add}
use Rattle.std.proofs.Math.ListN.{get_or-append, get_or-eq_default}
use Rattle.std.proofs.lemmas.List.{get_or_at}
use Rattle.rules.specs.Kinds.{Kind, sort, Tag, term, body, fields}
use Rattle.rules.specs.Rows.{Ptr, Row, var, node, leaf, Cell, Store, cell_at, row_at, bound_on, bound, up_on, up, field_bound, field_height, cell, put}
use Rattle.rules.specs.RowCheck.{ChildOk, FieldOk, plain_ok, term_ok, body_ok, InScope}
use Rattle.rules.specs.Firings.{Written}
use Rattle.substitution.specs.Places.{Place, below, here, past, place}

-- FORMED STORES

-- the fields of row n are as the table says: children lower, closed ones unshifted, unused ones blank
pub data FieldsOk (s : Store) (n : ℕ) : Row → Type 0 where
  var_fields : {i : ℕ} → FieldsOk s n (var i)
  node_fields : {κ : Kind} {x y z : Ptr} →
      FieldOk s n x (fields κ).first → FieldOk s n y (fields κ).second → FieldOk s n z (fields κ).third → FieldsOk s n (node κ x y z)

pub record FormedAt (s : Store) (n : ℕ) : Type 0 where
  pub fields : FieldsOk s n (row_at s n)
  pub exact : cell_at s n ≡ cell s (row_at s n)

pub record Formed (s : Store) : Type 0 where
  pub each : (n : ℕ) → n < length s → FormedAt s n

-- a pointer that stands in the store, unshifted if closed
abbrev pub Good : Store → Ptr → Type 0
Good s p = ChildOk s (length s) p

pub first_ok : {s : Store} {n : ℕ} {κ : Kind} {x y z : Ptr} → FieldsOk s n (node κ x y z) → FieldOk s n x (fields κ).first
first_ok (node_fields a b c) = a

pub second_ok : {s : Store} {n : ℕ} {κ : Kind} {x y z : Ptr} → FieldsOk s n (node κ x y z) → FieldOk s n y (fields κ).second
second_ok (node_fields a b c) = b

pub third_ok : {s : Store} {n : ℕ} {κ : Kind} {x y z : Ptr} → FieldsOk s n (node κ x y z) → FieldOk s n z (fields κ).third
third_ok (node_fields a b c) = c

pub term_child : {s : Store} {n : ℕ} {p : Ptr} → FieldOk s n p term → ChildOk s n p
term_child (term_ok o) = o

pub body_child : {s : Store} {n : ℕ} {p : Ptr} → FieldOk s n p body → ChildOk s n p
body_child (body_ok o) = o

pub scope_good : {s : Store} {d : ℕ} {p : Ptr} → InScope s d p → Good s p
scope_good i = record { lower = i.there; still = i.still }

-- A STORE GROWN AT ITS END

pub record Ext (s s' : Store) : Type 0 where
  pub new : List Cell
  pub after : s ++ new ≡ s'

pub ext_same : (s : Store) → Ext s s
ext_same s = record { new = []; after = append-nil s }

pub ext_then : {a b c : Store} → Ext a b → Ext b c → Ext a c
ext_then {a} e f = record { new = e.new ++ f.new; after = sym (append_assoc a e.new f.new) ∙ ap (◌++ f.new) e.after ∙ f.after }

pub ext_put : (s : Store) (c : Cell) → Ext s (s ++ (c ∷ []))
ext_put s c = record { new = c ∷ []; after = refl }

abbrev pub ext_written : {s s' : Store} → Written s s' → Ext s s'
ext_written w = record { new = w.new; after = w.after }

pub ext_length : {s s' : Store} → Ext s s' → length s ≤ length s'
ext_length {s} e = rw (← e.after, length-append) (omega arith)

pub ext_cell : {s s' : Store} → Ext s s' → (n : ℕ) → n < length s → cell_at s' n ≡ cell_at s n
unfolding cell_at
ext_cell {s} e n h = rw (← e.after) (get_or-append s e.new _ n h)

pub ext_row : {s s' : Store} → Ext s s' → (n : ℕ) → n < length s → row_at s' n ≡ row_at s n
ext_row e n h = ap (λ (c : Cell). c.row) (ext_cell e n h)

pub ext_bound : {s s' : Store} → Ext s s' → (p : Ptr) → p.row < length s → bound s' p ≡ bound s p
ext_bound e p h = ap (λ (c : Cell). bound_on c.bound p.shift) (ext_cell e p.row h)

pub ext_height : {s s' : Store} → Ext s s' → (p : Ptr) → p.row < length s → (cell_at s' p.row).height ≡ (cell_at s p.row).height
ext_height e p h = ap (λ (c : Cell). c.height) (ext_cell e p.row h)

pub ext_up : {s s' : Store} → Ext s s' → (p : Ptr) (k : ℕ) → p.row < length s → up s' p k ≡ up s p k
ext_up e p k h = ap (λ (c : Cell). up_on c.bound p k) (ext_cell e p.row h)

-- a child, a field, the fields below n stay good below any n' from n on
pub ext_child : {s s' : Store} {n : ℕ} {p : Ptr} → Ext s s' → n ≤ length s → (n' : ℕ) → n ≤ n' → ChildOk s n p → ChildOk s' n' p
ext_child {p = p} e h n' g o = record {
  lower = omega (arith, o.lower);
  still = λ z. o.still (ap (λ (c : Cell). c.bound) (sym (ext_cell e p.row (omega (arith, o.lower)))) ∙ z);
}

pub ext_field : {s s' : Store} {n : ℕ} {p : Ptr} {τ : Tag} → Ext s s' → n ≤ length s → (n' : ℕ) → n ≤ n' → FieldOk s n p τ → FieldOk s' n' p τ
ext_field e h n' g (plain_ok o) = plain_ok o
ext_field e h n' g (term_ok o) = term_ok (ext_child e h n' g o)
ext_field e h n' g (body_ok o) = body_ok (ext_child e h n' g o)

pub ext_fields : {s s' : Store} {n : ℕ} {w : Row} → Ext s s' → n ≤ length s → (n' : ℕ) → n ≤ n' → FieldsOk s n w → FieldsOk s' n' w
ext_fields e h n' g var_fields = var_fields
ext_fields e h n' g (node_fields a b c) = node_fields (ext_field e h n' g a) (ext_field e h n' g b) (ext_field e h n' g c)

pub ext_good : {s s' : Store} {p : Ptr} → Ext s s' → Good s p → Good s' p
ext_good {s} {s'} e o = ext_child e (le_refl _) (length s') (ext_length e) o

pub ext_good_field : {s s' : Store} {p : Ptr} {τ : Tag} → Ext s s' → FieldOk s (length s) p τ → FieldOk s' (length s') p τ
ext_good_field {s} {s'} e o = ext_field e (le_refl _) (length s') (ext_length e) o

-- a row's children stand in the store
pub child_good : {s : Store} {n : ℕ} {p : Ptr} → n ≤ length s → ChildOk s n p → Good s p
child_good {s} h o = ext_child (ext_same s) h (length s) h o

pub fields_good : {s : Store} {n : ℕ} {w : Row} → n ≤ length s → FieldsOk s n w → FieldsOk s (length s) w
fields_good {s} h f = ext_fields (ext_same s) h (length s) h f

pub good_fields : {s : Store} {p : Ptr} → Formed s → Good s p → FieldsOk s (length s) (row_at s p.row)
good_fields {p = p} f o = fields_good (omega (arith, o.lower)) (f.each p.row o.lower).fields

pub fields_at : {s : Store} {p : Ptr} {w : Row} → Formed s → Good s p → row_at s p.row ≡ w → FieldsOk s (length s) w
fields_at {s} f o e = subst (FieldsOk s (length s)) e (good_fields f o)

-- what a row's children give it is the same in a grown store
ext_field_bound : {s s' : Store} {n : ℕ} {p : Ptr} {τ : Tag} → Ext s s' → n ≤ length s → FieldOk s n p τ → field_bound s' τ p ≡ field_bound s τ p
unfolding field_bound
ext_field_bound e h (plain_ok o) = refl
ext_field_bound {p = p} e h (term_ok o) = ext_bound e p (omega (arith, o.lower))
ext_field_bound {p = p} e h (body_ok o) = ap pred (ext_bound e p (omega (arith, o.lower)))

pub ext_field_height : {s s' : Store} {n : ℕ} {p : Ptr} {τ : Tag} → Ext s s' → n ≤ length s → FieldOk s n p τ → field_height s' τ p ≡ field_height s τ p
unfolding field_height
ext_field_height e h (plain_ok o) = refl
ext_field_height {p = p} e h (term_ok o) = ext_height e p (omega (arith, o.lower))
ext_field_height {p = p} e h (body_ok o) = ext_height e p (omega (arith, o.lower))

pub ext_new_cell : {s s' : Store} {n : ℕ} {w : Row} → Ext s s' → n ≤ length s → FieldsOk s n w → cell s' w ≡ cell s w
unfolding cell
ext_new_cell e h var_fields = refl
ext_new_cell e h (node_fields {κ = κ} {x = x} {y = y} {z = z} a b c) = λ i. record {
  row = node κ x y z;
  bound = max (max (ext_field_bound e h a i) (ext_field_bound e h b i)) (ext_field_bound e h c i);
  height = suc (max (max (ext_field_height e h a i) (ext_field_height e h b i)) (ext_field_height e h c i));
}

pub ext_formed_at : {s s' : Store} {n : ℕ} → Ext s s' → n < length s → FormedAt s n → FormedAt s' n
ext_formed_at {s} {s'} {n} e h f =
    let same = ext_cell e n h in
    record {
      fields = subst (λ (c : Cell). FieldsOk s' n c.row) (sym same) (ext_fields e (omega arith) n (le_refl n) f.fields);
      exact = same ∙ f.exact ∙ sym (ext_new_cell e (omega arith) f.fields) ∙ ap (λ (c : Cell). cell s' c.row) (sym same);
    }

-- past the end
unfoldable pub no_cell : Cell
no_cell = record { row = leaf (sort 0); bound = 0; height = 1 }

pub past_end : (s : Store) (n : ℕ) → length s ≤ n → cell_at s n ≡ no_cell
unfolding cell_at no_cell
past_end s n h = get_or-eq_default s no_cell h

-- the new cells, counted from the old end
pub ext_new : {s s' : Store} (e : Ext s s') (n : ℕ) → length s ≤ n → cell_at s' n ≡ get_or e.new (n - length s) no_cell
unfolding cell_at no_cell
ext_new {s} e n h = rw (← e.after) (ap (λ (m : ℕ). get_or (s ++ e.new) m no_cell) (omega arith) ∙ get_or-append-add s e.new (n - length s) no_cell)

-- A ROW PUT AT THE END

pub cell_row : (s : Store) (w : Row) → (cell s w).row ≡ w
unfolding cell
cell_row s (var i) = refl
cell_row s (node κ x y z) = refl

pub end_cell : (s : Store) (c : Cell) → cell_at (s ++ (c ∷ [])) (length s) ≡ c
unfolding cell_at
end_cell s c = get_or_at s c [] _ (length s) refl

pub end_row : (s : Store) (w : Row) → row_at (put s w).store (length s) ≡ w
end_row s w = ap (λ (c : Cell). c.row) (end_cell s (cell s w)) ∙ cell_row s w

pub put-length : (s : Store) (w : Row) → length (put s w).store ≡ suc (length s)
put-length s w = rw length-append (omega arith)

-- the old rows and the new one
pub by_end : {P : ℕ → Type 0} (s : Store) (w : Row) → ((n : ℕ) → n < length s → P n) → P (length s) → (n : ℕ) → n < length (put s w).store → P n
by_end {P} s w old end n h = go (place n (length s))
  where
    go : Place n (length s) → P n
    go (below q) = old n q
    go (here q) = subst P (sym q) end
    go (past q) = absurd (omega (arith, put-length s w))

pub put_good : (s : Store) (w : Row) → Good (put s w).store (put s w).at
put_good s w = record { lower = omega (arith, put-length s w); still = λ z. refl }

pub put_formed : {s : Store} {w : Row} → Formed s → FieldsOk s (length s) w → Formed (put s w).store
put_formed {s} {w} f o = record { each = by_end {P = FormedAt s'} s w (λ n h. ext_formed_at e h (f.each n h)) end }
  where
    s' : Store
    s' = (put s w).store

    e : Ext s s'
    e = ext_put s (cell s w)

    end : FormedAt s' (length s)
    end = record {
      fields = subst (FieldsOk s' (length s)) (sym (end_row s w)) (ext_fields e (le_refl _) (length s) (le_refl _) o);
      exact = end_cell s (cell s w) ∙ sym (ext_new_cell e (le_refl _) o) ∙ ap (cell s') (sym (end_row s w));
    }

-- A POINTER SHIFTED UP

pub up_child : {s : Store} {n : ℕ} {p : Ptr} (k : ℕ) → ChildOk s n p → ChildOk s n (up s p k)
up_child {s} {n} {p} k o = go (cell_at s p.row).bound refl
  where
    go : (b : ℕ) → (cell_at s p.row).bound ≡ b → ChildOk s n (up_on b p k)
    go zero e = o
    go (suc b) e = record { lower = o.lower; still = λ z. absurd (omega (arith, e, z)) }
