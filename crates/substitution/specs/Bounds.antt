-- A good pointer's recorded bound is its tree's loose bound, and its row's recorded height its tree's height; so a pointer shifted
-- up reads as its tree shifted up. Assumes `Formed` and a good pointer.
use Rattle.std.specs.Prelude.{ℕ, zero, suc, ◌+◌, ◌≤◌, ◌<◌, pred, max, ◌≡◌, refl, length}
use Rattle.std.proofs.Common.{le_refl, arith, sym, ap, ap₂, ◌∙◌, subst as along}
use Rattle.std.proofs.Math.Nat.{max-zero}
use Rattle.std.proofs.Math.Decide.{dec_le}
use Rattle.rules.specs.Kinds.{table, fields}
use Rattle.rules.specs.Rows.{Ptr, Row, Cell, Store, cell_at, row_at, bound_on, bound, up_on, up, field_bound, field_height, cell}
use Rattle.rules.specs.ReadOut.{Tree, var, sort, const, app, lam, pi, let', proj, num, shift, Reads, shifted, ReadsRow, reads_var, reads_sort}
use Rattle.rules.specs.ReadOut.{reads_const, reads_app, reads_lam, reads_pi, reads_let, reads_proj, reads_num}
use Rattle.substitution.specs.Places.{Place, below, here, past, place}
use Rattle.substitution.specs.Trees.{loose, tree_height, shift_low, shift_high}
use Rattle.substitution.specs.TreeLaws.{shift_closed, shift-shift}
use Rattle.substitution.specs.Stores.{FieldsOk, first_ok, second_ok, third_ok, term_child, body_child, Formed, Good, good_fields}

-- m is the bound n after indices from d on went up by k
pub record Lifted (k d n m : ℕ) : Type 0 where
  pub low : n ≤ d → m ≡ n
  pub high : d < n → m ≡ n + k

lifted_zero : (k d : ℕ) → Lifted k d 0 0
lifted_zero k d = record { low = λ h. refl; high = λ h. absurd (omega arith) }

lifted_two : {k d a b x y : ℕ} → Lifted k d x a → Lifted k d y b → Lifted k d (max x y) (max a b)
lifted_two {k} {d} {a} {b} {x} {y} p q =
    record { low = λ h. omega (arith, p.low (omega arith), q.low (omega arith)); high = λ h. go h (dec_le x d) (dec_le y d) }
  where
    go : d < max x y → Dec (x ≤ d) → Dec (y ≤ d) → max a b ≡ max x y + k
    go h (yes u) (yes w) = absurd (omega arith)
    go h (yes u) (no w) = omega (arith, p.low u, q.high (omega arith))
    go h (no u) (yes w) = omega (arith, p.high (omega arith), q.low w)
    go h (no u) (no w) = omega (arith, p.high (omega arith), q.high (omega arith))

lifted_body : {k d b y : ℕ} → Lifted k (suc d) y b → Lifted k d (pred y) (pred b)
lifted_body q = record { low = λ h. ap pred (q.low (omega arith)); high = λ h. omega (arith, q.high (omega arith)) }

-- SHIFTED TREES

pub loose-shift : (k d : ℕ) (t : Tree) → Lifted k d (loose t) (loose (shift k d t))
unfolding shift loose
loose-shift k d (var i) = record { low = λ h. ap loose (shift_low k d i h); high = λ h. ap loose (shift_high k d i (omega arith)) ∙ omega arith }
loose-shift k d (sort l) = lifted_zero k d
loose-shift k d (const e n) = lifted_zero k d
loose-shift k d (app f a) = lifted_two (loose-shift k d f) (loose-shift k d a)
loose-shift k d (lam t b) = lifted_two (loose-shift k d t) (lifted_body (loose-shift k (suc d) b))
loose-shift k d (pi t b) = lifted_two (loose-shift k d t) (lifted_body (loose-shift k (suc d) b))
loose-shift k d (let' t v b) = lifted_two (lifted_two (loose-shift k d t) (loose-shift k d v)) (lifted_body (loose-shift k (suc d) b))
loose-shift k d (proj e i x) = loose-shift k d x
loose-shift k d (num n) = lifted_zero k d

pub height_shift : (k d : ℕ) (t : Tree) → tree_height (shift k d t) ≡ tree_height t
unfolding shift tree_height
height_shift k d (var i) = go (place i d)
  where
    go : Place i d → tree_height (shift k d (var i)) ≡ 1
    go (below q) = ap tree_height (shift_low k d i q)
    go (here q) = ap tree_height (shift_high k d i (omega arith))
    go (past q) = ap tree_height (shift_high k d i (omega arith))
height_shift k d (sort l) = refl
height_shift k d (const e n) = refl
height_shift k d (app f a) = omega (arith, height_shift k d f, height_shift k d a)
height_shift k d (lam t b) = omega (arith, height_shift k d t, height_shift k (suc d) b)
height_shift k d (pi t b) = omega (arith, height_shift k d t, height_shift k (suc d) b)
height_shift k d (let' t v b) = omega (arith, height_shift k d t, height_shift k d v, height_shift k (suc d) b)
height_shift k d (proj e i x) = omega (arith, height_shift k d x)
height_shift k d (num n) = refl

-- RECORDED AND REAL

lifted_bound : {k n m : ℕ} → Lifted k 0 n m → m ≡ bound_on n k
lifted_bound {n = zero} l = l.low (omega arith)
lifted_bound {n = suc n} l = l.high (omega arith)

-- a pointer, from its row
pointer_loose : {s : Store} {p : Ptr} (u : Tree) → Formed s → Good s p → loose u ≡ (cell s (row_at s p.row)).bound → loose (shift p.shift 0 u) ≡ bound s p
pointer_loose {s} {p} u f o e =
    lifted_bound (loose-shift p.shift 0 u) ∙
    ap (λ (n : ℕ). bound_on n p.shift) (e ∙ ap (λ (c : Cell). c.bound) (sym (f.each p.row o.lower).exact))

pointer_height : {s : Store} {p : Ptr} (u : Tree) →
    Formed s → Good s p → tree_height u ≡ (cell s (row_at s p.row)).height → tree_height (shift p.shift 0 u) ≡ (cell_at s p.row).height
pointer_height {s} {p} u f o e = height_shift p.shift 0 u ∙ e ∙ ap (λ (c : Cell). c.height) (sym (f.each p.row o.lower).exact)

mutual
  unfolding cell field_bound loose fields table

  pub bound_is_loose : {s : Store} {p : Ptr} {t : Tree} → Formed s → Good s p → Reads s p t → loose t ≡ bound s p
  bound_is_loose {s} {p} f o (shifted {u = u} r e) = ap loose (sym e) ∙ pointer_loose u f o (row_loose f (good_fields f o) r)

  row_loose : {s : Store} {w : Row} {t : Tree} → Formed s → FieldsOk s (length s) w → ReadsRow s w t → loose t ≡ (cell s w).bound
  row_loose f o reads_var = refl
  row_loose f o reads_sort = refl
  row_loose f o reads_const = refl
  row_loose f o (reads_app a b) = ap₂ max (bound_is_loose f (term_child (first_ok o)) a) (bound_is_loose f (term_child (second_ok o)) b) ∙ sym (max-zero _)
  row_loose f o (reads_lam a b) =
      ap₂ max (bound_is_loose f (term_child (first_ok o)) a) (ap pred (bound_is_loose f (body_child (second_ok o)) b)) ∙ sym (max-zero _)
  row_loose f o (reads_pi a b) =
      ap₂ max (bound_is_loose f (term_child (first_ok o)) a) (ap pred (bound_is_loose f (body_child (second_ok o)) b)) ∙ sym (max-zero _)
  row_loose f o (reads_let a b c) =
      ap₂ max (ap₂ max (bound_is_loose f (term_child (first_ok o)) a) (bound_is_loose f (term_child (second_ok o)) b))
      (ap pred (bound_is_loose f (body_child (third_ok o)) c))
  row_loose f o (reads_proj a) = omega (arith, bound_is_loose f (term_child (first_ok o)) a)
  row_loose f o reads_num = refl

mutual
  unfolding cell field_height tree_height fields table

  pub height_is_height : {s : Store} {p : Ptr} {t : Tree} → Formed s → Good s p → Reads s p t → tree_height t ≡ (cell_at s p.row).height
  height_is_height {s} {p} f o (shifted {u = u} r e) = ap tree_height (sym e) ∙ pointer_height u f o (row_height f (good_fields f o) r)

  row_height : {s : Store} {w : Row} {t : Tree} → Formed s → FieldsOk s (length s) w → ReadsRow s w t → tree_height t ≡ (cell s w).height
  row_height f o reads_var = refl
  row_height f o reads_sort = refl
  row_height f o reads_const = refl
  row_height f o (reads_app a b) = omega (arith, height_is_height f (term_child (first_ok o)) a, height_is_height f (term_child (second_ok o)) b)
  row_height f o (reads_lam a b) = omega (arith, height_is_height f (term_child (first_ok o)) a, height_is_height f (body_child (second_ok o)) b)
  row_height f o (reads_pi a b) = omega (arith, height_is_height f (term_child (first_ok o)) a, height_is_height f (body_child (second_ok o)) b)
  row_height f o (reads_let a b c) =
      let first = height_is_height f (term_child (first_ok o)) a in
      let second = height_is_height f (term_child (second_ok o)) b in
      omega (arith, first, second, height_is_height f (body_child (third_ok o)) c)
  row_height f o (reads_proj a) = omega (arith, height_is_height f (term_child (first_ok o)) a)
  row_height f o reads_num = refl

-- A POINTER SHIFTED UP

pub reads_up : {s : Store} {p : Ptr} {t : Tree} (k : ℕ) → Formed s → Good s p → Reads s p t → Reads s (up s p k) (shift k 0 t)
reads_up {s} {p} {t} k f o r = go (cell_at s p.row).bound refl r
  where
    go : (b : ℕ) → (cell_at s p.row).bound ≡ b → Reads s p t → Reads s (up_on b p k) (shift k 0 t)
    go zero e q = along (Reads s p) (sym (shift_closed k 0 t (omega (arith, bound_is_loose f o q, ap (λ (n : ℕ). bound_on n p.shift) e)))) q
    go (suc b) e (shifted {u = u} q e') = shifted q (sym (shift-shift p.shift k 0 u 0 (le_refl 0) (omega arith)) ∙ ap (shift k 0) e')
