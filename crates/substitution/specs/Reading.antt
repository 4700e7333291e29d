-- The read-out of a formed store: each good pointer reads as exactly one tree, and reads as that tree in every store grown from it.
-- Assumes `Formed` and good pointers, and for uniqueness nothing.
use Rattle.std.specs.Prelude.{ℕ, zero, suc, ◌≤◌, ◌<◌, ◌≡◌, refl, length}
use Rattle.std.proofs.Common.{le_refl, arith, sym, ap, ap₂, ◌∙◌, subst as along}
use Rattle.rules.specs.Kinds.{Kind, Tag, plain, term, body, table, fields}
use Rattle.rules.specs.Kinds as K
use Rattle.rules.specs.Rows.{Ptr, ptr, Row, node, Store, row_at}
use Rattle.rules.specs.RowCheck.{FieldOk, plain_ok, term_ok, body_ok}
use Rattle.rules.specs.ReadOut.{Tree, var, sort, app, lam, pi, proj, shift, Reads, shifted, ReadsRow, reads_var, reads_sort}
use Rattle.rules.specs.ReadOut.{reads_const, reads_app, reads_lam, reads_pi, reads_let, reads_proj, reads_num}
use Rattle.substitution.specs.Trees.{build, let_eq}
use Rattle.substitution.specs.TreeLaws.{shift_zero}
use Rattle.substitution.specs.Stores.{FieldsOk, var_fields, node_fields, first_ok, second_ok, third_ok, term_child, body_child, Formed, Good}
use Rattle.substitution.specs.Stores.{good_fields, Ext, ext_row}

-- BY THE TABLE

-- a field reads as a tree; of a plain field nothing is asked
pub data ReadsField (s : Store) : Tag → Ptr → Tree → Type 0 where
  no_term : {p : Ptr} {t : Tree} → ReadsField s plain p t
  as_term : {p : Ptr} {t : Tree} → Reads s p t → ReadsField s term p t
  as_body : {p : Ptr} {t : Tree} → Reads s p t → ReadsField s body p t

-- a row of kind κ reads as the tree built from what its fields read as
pub record ReadsFields (s : Store) (κ : Kind) (x y z : Ptr) (t : Tree) : Type 0 where
  pub first : Tree
  pub second : Tree
  pub third : Tree
  pub reads_first : ReadsField s (fields κ).first x first
  pub reads_second : ReadsField s (fields κ).second y second
  pub reads_third : ReadsField s (fields κ).third z third
  pub built : build κ first second third ≡ t

-- stands for the tree of a plain field
abbrev any : Tree
any = sort 0

fields_of : {s : Store} {x y z : Ptr} (κ : Kind) (t u w : Tree) →
    ReadsField s (fields κ).first x t → ReadsField s (fields κ).second y u → ReadsField s (fields κ).third z w → ReadsFields s κ x y z (build κ t u w)
fields_of κ t u w a b c = record { first = t; second = u; third = w; reads_first = a; reads_second = b; reads_third = c; built = refl }

pub row_fields : {s : Store} {κ : Kind} {x y z : Ptr} {t : Tree} → ReadsRow s (node κ x y z) t → ReadsFields s κ x y z t
unfolding build fields table
row_fields (reads_sort {l = l}) = fields_of (K.sort l) any any any no_term no_term no_term
row_fields (reads_const {d = d} {n = n}) = fields_of (K.const d n) any any any no_term no_term no_term
row_fields (reads_app {t = t} {u = u} a b) = fields_of K.app t u any (as_term a) (as_term b) no_term
row_fields (reads_lam {t = t} {u = u} a b) = fields_of K.lam t u any (as_term a) (as_body b) no_term
row_fields (reads_pi {t = t} {u = u} a b) = fields_of K.pi t u any (as_term a) (as_body b) no_term
row_fields (reads_let {t = t} {u = u} {w = w} a b c) = fields_of K.let' t u w (as_term a) (as_term b) (as_body c)
row_fields (reads_proj {d = d} {i = i} {t = t} a) = fields_of (K.proj d i) t any any (as_term a) no_term no_term
row_fields (reads_num {n = n}) = fields_of (K.num n) any any any no_term no_term no_term

pub of_term : {s : Store} {p : Ptr} {t : Tree} → ReadsField s term p t → Reads s p t
of_term (as_term r) = r

pub of_body : {s : Store} {p : Ptr} {t : Tree} → ReadsField s body p t → Reads s p t
of_body (as_body r) = r

pub fields_row : {s : Store} (κ : Kind) {x y z : Ptr} {t u w : Tree} →
    ReadsField s (fields κ).first x t → ReadsField s (fields κ).second y u → ReadsField s (fields κ).third z w → ReadsRow s (node κ x y z) (build κ t u w)
unfolding build fields table
fields_row (K.sort l) a b c = reads_sort
fields_row (K.const d n) a b c = reads_const
fields_row K.app a b c = reads_app (of_term a) (of_term b)
fields_row K.lam a b c = reads_lam (of_term a) (of_body b)
fields_row K.pi a b c = reads_pi (of_term a) (of_body b)
fields_row K.let' a b c = reads_let (of_term a) (of_term b) (of_body c)
fields_row (K.proj d i) a b c = reads_proj (of_term a)
fields_row (K.num n) a b c = reads_num

-- the row w reads as a tree that the shift k takes to t
pub record RowReads (s : Store) (w : Row) (k : ℕ) (t : Tree) : Type 0 where
  pub tree : Tree
  pub row : ReadsRow s w tree
  pub is : shift k 0 tree ≡ t

pub before_shift : {s : Store} {p : Ptr} {t : Tree} → Reads s p t → RowReads s (row_at s p.row) p.shift t
before_shift (shifted {u = u} r e) = record { tree = u; row = r; is = e }

pub at_row : {s : Store} {p : Ptr} {w : Row} {t : Tree} → row_at s p.row ≡ w → Reads s p t → RowReads s w p.shift t
at_row {s} {p} {t = t} e r = along (λ (w : Row). RowReads s w p.shift t) e (before_shift r)

-- EXACTLY ONE TREE

mutual
  pub reads_unique : {s : Store} {p : Ptr} {t t' : Tree} → Reads s p t → Reads s p t' → t ≡ t'
  reads_unique {p = p} (shifted r e) (shifted r' e') = sym e ∙ ap (shift p.shift 0) (row_unique r r') ∙ e'

  pub row_unique : {s : Store} {w : Row} {t t' : Tree} → ReadsRow s w t → ReadsRow s w t' → t ≡ t'
  row_unique reads_var reads_var = refl
  row_unique reads_sort reads_sort = refl
  row_unique reads_const reads_const = refl
  row_unique (reads_app a b) (reads_app a' b') = ap₂ app (reads_unique a a') (reads_unique b b')
  row_unique (reads_lam a b) (reads_lam a' b') = ap₂ lam (reads_unique a a') (reads_unique b b')
  row_unique (reads_pi a b) (reads_pi a' b') = ap₂ pi (reads_unique a a') (reads_unique b b')
  row_unique (reads_let a b c) (reads_let a' b' c') = let_eq (reads_unique a a') (reads_unique b b') (reads_unique c c')
  row_unique (reads_proj {d = d} {i = i} a) (reads_proj a') = ap (proj d i) (reads_unique a a')
  row_unique reads_num reads_num = refl

-- a pointer with the tree that it reads as
pub record Read (s : Store) (p : Ptr) : Type 0 where
  pub tree : Tree
  pub reads : Reads s p tree

record ReadField (s : Store) (τ : Tag) (p : Ptr) : Type 0 where
  tree : Tree
  reads : ReadsField s τ p tree

record ReadRow (s : Store) (w : Row) : Type 0 where
  tree : Tree
  reads : ReadsRow s w tree

-- what stands below row n is read
abbrev Below : Store → ℕ → Type 0
Below s n = (r : ℕ) → r < n → ReadRow s (row_at s r)

read_field : {s : Store} {n : ℕ} {p : Ptr} {τ : Tag} → Below s n → FieldOk s n p τ → ReadField s τ p
read_field b (plain_ok o) = record { tree = any; reads = no_term }
read_field {p = p} b (term_ok o) = let r = b p.row o.lower in record { tree = shift p.shift 0 r.tree; reads = as_term (shifted r.reads refl) }
read_field {p = p} b (body_ok o) = let r = b p.row o.lower in record { tree = shift p.shift 0 r.tree; reads = as_body (shifted r.reads refl) }

read_row : {s : Store} {n : ℕ} {w : Row} → Below s n → FieldsOk s n w → ReadRow s w
read_row b (var_fields {i = i}) = record { tree = var i; reads = reads_var }
read_row b (node_fields {κ = κ} o₁ o₂ o₃) =
    let x = read_field b o₁ in
    let y = read_field b o₂ in
    let z = read_field b o₃ in
    record { tree = build κ x.tree y.tree z.tree; reads = fields_row κ x.reads y.reads z.reads }

rows_below : {s : Store} → Formed s → (n : ℕ) → n ≤ length s → Below s n
rows_below f zero h r q = absurd (omega arith)
rows_below f (suc n) h r q = read_row (λ r' q'. rows_below f n (omega arith) r' (omega arith)) (f.each r (omega arith)).fields

pub reads_exists : {s : Store} {p : Ptr} → Formed s → Good s p → Read s p
reads_exists {s} {p} f o =
    let r = rows_below f (length s) (le_refl _) p.row o.lower in record { tree = shift p.shift 0 r.tree; reads = shifted r.reads refl }

-- AN UNSHIFTED POINTER, A GROWN STORE

pub reads_unshifted : {s : Store} {r : ℕ} {w : Row} {t : Tree} → row_at s r ≡ w → ReadsRow s w t → Reads s (ptr r 0) t
reads_unshifted {s} {t = t} e q = shifted (along (λ (w : Row). ReadsRow s w t) (sym e) q) (shift_zero 0 t)

mutual
  unfolding fields table

  pub reads_later : {s s' : Store} {p : Ptr} {t : Tree} → Formed s → Ext s s' → Good s p → Reads s p t → Reads s' p t
  reads_later {s} {s'} {p} f x o (shifted {u = u} r e) =
      shifted (along (λ (w : Row). ReadsRow s' w u) (sym (ext_row x p.row o.lower)) (row_later f x (good_fields f o) r)) e

  pub row_later : {s s' : Store} {w : Row} {t : Tree} → Formed s → Ext s s' → FieldsOk s (length s) w → ReadsRow s w t → ReadsRow s' w t
  row_later f x o reads_var = reads_var
  row_later f x o reads_sort = reads_sort
  row_later f x o reads_const = reads_const
  row_later f x o (reads_app a b) = reads_app (reads_later f x (term_child (first_ok o)) a) (reads_later f x (term_child (second_ok o)) b)
  row_later f x o (reads_lam a b) = reads_lam (reads_later f x (term_child (first_ok o)) a) (reads_later f x (body_child (second_ok o)) b)
  row_later f x o (reads_pi a b) = reads_pi (reads_later f x (term_child (first_ok o)) a) (reads_later f x (body_child (second_ok o)) b)
  row_later f x o (reads_let a b c) =
      reads_let (reads_later f x (term_child (first_ok o)) a) (reads_later f x (term_child (second_ok o)) b) (reads_later f x (body_child (third_ok o)) c)
  row_later f x o (reads_proj a) = reads_proj (reads_later f x (term_child (first_ok o)) a)
  row_later f x o reads_num = reads_num

pub field_later : {s s' : Store} {p : Ptr} {τ : Tag} {t : Tree} → Formed s → Ext s s' → FieldOk s (length s) p τ → ReadsField s τ p t → ReadsField s' τ p t
field_later f x o no_term = no_term
field_later f x o (as_term r) = as_term (reads_later f x (term_child o) r)
field_later f x o (as_body r) = as_body (reads_later f x (body_child o) r)

-- and back: what an old pointer reads as in the grown store, it read as before
pub reads_before : {s s' : Store} {p : Ptr} {t : Tree} → Formed s → Ext s s' → Good s p → Reads s' p t → Reads s p t
reads_before {s} {s'} {p} f x o r =
    let q = reads_exists f o in
    along (Reads s p) (reads_unique (reads_later f x o q.reads) r) q.reads
