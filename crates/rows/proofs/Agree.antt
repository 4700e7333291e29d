-- Two stores that agree on a row's children give the row the same bound and height, and so the row passes in both or in neither.
-- Assumes nothing.
use Prim.Native.Nat.{ℕ, zero, suc, ◌≤◌, pred, max}
use native.Mathlib.Omega.{arith}
use mathlib.Core.Path.{◌≡◌, refl, sym, ap, subst, ◌∙◌}
use Rattle.rules.specs.Kinds.{Kind, Tag, plain, term, body, Tags, fields}
use Rattle.rules.specs.Rows.{Ptr, Row, var, node, Cell, Store, cell, cell_at, row_at, bound_on, field_bound, field_height}
use Rattle.rules.specs.RowCheck.{ChildOk, FieldOk, plain_ok, term_ok, body_ok, RowOk, var_ok, node_ok, Fits, Passes}
use Rattle.rows.specs.Words.{kind_of, tags_at, tag_at, shown, row_by}
use Rattle.rows.proofs.NineKinds.{fields_are, term_not_plain, body_not_plain, child_shown}

-- a row says what it was made of
pub cell_row : (s : Store) (w : Row) → (cell s w).row ≡ w
unfolding cell
cell_row s (var i) = refl
cell_row s (node κ x y z) = refl

module _ (s t : Store) where
  -- the child that a field names, if it names one, is the same in both
  abbrev pub Alike : Tag → Ptr → Type 0
  Alike g p = (g ≡ plain → ⊥) → cell_at s p.row ≡ cell_at t p.row

  same_bound : (g : Tag) (p : Ptr) → Alike g p → field_bound s g p ≡ field_bound t g p
  unfolding field_bound
  same_bound plain p e = refl
  same_bound term p e = ap (λ (x : Cell). bound_on x.bound p.shift) (e term_not_plain)
  same_bound body p e = ap (λ (x : Cell). pred (bound_on x.bound p.shift)) (e body_not_plain)

  same_height : (g : Tag) (p : Ptr) → Alike g p → field_height s g p ≡ field_height t g p
  unfolding field_height
  same_height plain p e = refl
  same_height term p e = ap (λ (x : Cell). x.height) (e term_not_plain)
  same_height body p e = ap (λ (x : Cell). x.height) (e body_not_plain)

  node_agree : (κ : Kind) (x y z : Ptr) → Alike (fields κ).first x → Alike (fields κ).second y → Alike (fields κ).third z →
      cell s (node κ x y z) ≡ cell t (node κ x y z)
  unfolding cell
  node_agree κ x y z ex ey ez = λ i. record {
    row = node κ x y z;
    bound = max (max (same_bound (fields κ).first x ex i) (same_bound (fields κ).second y ey i)) (same_bound (fields κ).third z ez i);
    height = suc (max (max (same_height (fields κ).first x ex i) (same_height (fields κ).second y ey i)) (same_height (fields κ).third z ez i));
  }

  -- the same for a kind and three pairs of words
  shown_alike : (g h : Tag) (p : Ptr) → h ≡ g → Alike g p → Alike h (shown g p)
  shown_alike g h p e alike ne =
      let child : g ≡ plain → ⊥ = λ f. ne (e ∙ f) in rw (child_shown g p child) (alike child)

  pub row_agree : (k : ℕ) (a b c : Ptr) → k ≤ 8 → Alike (tag_at k 0) a → Alike (tag_at k 1) b → Alike (tag_at k 2) c →
      cell s (row_by k a b c) ≡ cell t (row_by k a b c)
  unfolding cell row_by
  row_agree zero a b c h ea eb ec = refl
  row_agree (suc k) a b c h ea eb ec =
      let e : fields (kind_of (suc k) a b) ≡ tags_at (suc k) = fields_are (suc k) a b h in
      node_agree (kind_of (suc k) a b) _ _ _
      (shown_alike _ _ a (ap (λ (g : Tags). g.first) e) ea)
      (shown_alike _ _ b (ap (λ (g : Tags). g.second) e) eb)
      (shown_alike _ _ c (ap (λ (g : Tags). g.third) e) ec)

-- PASSING

module _ (D : ℕ) (s t : Store) (n : ℕ) (agree : (r : ℕ) → r ≤ n → cell_at s r ≡ cell_at t r) where
  ok_alike : {g : Tag} {p : Ptr} → FieldOk s n p g → Alike s t g p
  ok_alike (plain_ok e) = λ ne. absurd (ne refl)
  ok_alike {p = p} (term_ok child) = λ _. let below = child.lower in agree p.row (omega arith)
  ok_alike {p = p} (body_ok child) = λ _. let below = child.lower in agree p.row (omega arith)

  child_agrees : {p : Ptr} → ChildOk s n p → ChildOk t n p
  child_agrees {p} child =
      let below = child.lower in
      record { lower = below; still = λ e. child.still (ap (λ (x : Cell). x.bound) (agree p.row (omega arith)) ∙ e) }

  field_agrees : {g : Tag} {p : Ptr} → FieldOk s n p g → FieldOk t n p g
  field_agrees (plain_ok e) = plain_ok e
  field_agrees (term_ok child) = term_ok (child_agrees child)
  field_agrees (body_ok child) = body_ok (child_agrees child)

  row_ok_agrees : {w : Row} → RowOk D s n w → RowOk D t n w
  row_ok_agrees (var_ok h) = var_ok h
  row_ok_agrees (node_ok range x y z) = node_ok range (field_agrees x) (field_agrees y) (field_agrees z)

  ok_cell : {w : Row} → RowOk D s n w → cell s w ≡ cell t w
  unfolding cell
  ok_cell (var_ok h) = refl
  ok_cell (node_ok range x y z) = node_agree s t _ _ _ _ (ok_alike x) (ok_alike y) (ok_alike z)

  -- a row passes by what stands up to it
  pub passes_agrees : Passes D s n → Passes D t n
  passes_agrees passes =
      let here : cell_at s n ≡ cell_at t n = agree n (omega arith) in
      let row : row_at s n ≡ row_at t n = ap (λ (x : Cell). x.row) here in
      record {
        fields = subst (λ (w : Row). RowOk D t n w) row (row_ok_agrees passes.fields);
        exact = sym here ∙ passes.exact ∙ ok_cell passes.fields ∙ ap (λ (w : Row). cell t w) row;
        fits = subst Fits here passes.fits;
      }
