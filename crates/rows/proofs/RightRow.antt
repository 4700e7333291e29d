-- A row that stands is right if its words are formed, its fields keep their rules and its sizes are exact: the three tests of a row.
-- Assumes nothing.
use Prim.Native.Nat.{ℕ, ◌≤◌, ◌<◌}
use native.Mathlib.Omega.{arith}
use mathlib.Core.Path.{◌≡◌, sym, ap, subst, ◌∙◌}
use mathlib.Core.Bool.{Bool, true, false}
use mathlib.Core.List.{List}
use Rattle.rules.specs.Kinds.{Tag, plain}
use Rattle.rules.specs.Rows.{Ptr, Row, Cell, cell_at, row_at}
use Rattle.rules.specs.RowCheck.{FieldOk, RowOk}
use Rattle.rows.specs.declared.Shape.{Shape}
use Rattle.rows.specs.Words.{ptr_of, shown, tag_at, row_of, shape_at, decode, whole, words_at, Stands, Children}
use Rattle.rows.specs.Checks.{Formed, Sized, Says, Right}
use Rattle.rows.proofs.Store.{nine_words, cell_stands}
use Rattle.rows.proofs.Formed.{row_formed, decoded_row}
use Rattle.rows.proofs.Answers.{says_no, says_same}
use Rattle.rows.proofs.RowRules.{Parts, ok_child, row_parts}

module _ (D : ℕ) (l sc : List ℕ) (n : ℕ) (stands : Stands l sc n) (w : Shape) (is_shape : w ≡ shape_at (words_at l sc n)) where
  row_here : row_at (whole l sc) n ≡ row_of w
  unfolding decode
  row_here = ap (λ (x : Cell). x.row) (cell_stands l sc n stands) ∙ ap row_of (sym is_shape)

  lower_stands : (r : ℕ) → r < n → Stands l sc r
  lower_stands r h = record { whole_library = stands.whole_library; whole_scratch = stands.whole_scratch; there = omega arith }

  -- a row whose fields keep their rules has children that stand
  pub right_children : w.kind ≤ 8 → RowOk D (whole l sc) n (row_of w) → Children l sc (shape_at (words_at l sc n))
  right_children kind ok = subst (λ (v : Shape). Children l sc v) is_shape here
    where
      parts : Parts D (whole l sc) n w.kind (ptr_of w.first) (ptr_of w.second) (ptr_of w.third)
      parts = row_parts D (whole l sc) n (ptr_of w.first) (ptr_of w.second) (ptr_of w.third) w.kind kind ok

      child : (t : Tag) (p : Ptr) → FieldOk (whole l sc) n (shown t p) t → (t ≡ plain → ⊥) → Stands l sc p.row
      child t p f is_child = lower_stands p.row (ok_child (whole l sc) n t p f is_child).lower

      here : Children l sc w
      here = record {
        kind = kind;
        first = child (tag_at w.kind 0) (ptr_of w.first) parts.first;
        second = child (tag_at w.kind 1) (ptr_of w.second) parts.second;
        third = child (tag_at w.kind 2) (ptr_of w.third) parts.third;
      }

  right_formed : Right D l sc n → Formed w
  right_formed right = subst Formed (sym is_shape) (row_formed right.is_row)

  right_fields : Right D l sc n → RowOk D (whole l sc) n (row_of w)
  right_fields right = subst (λ (v : Row). RowOk D (whole l sc) n v) row_here right.passes.fields

  right_sized : Right D l sc n → Sized (whole l sc) (cell_at (whole l sc) n)
  right_sized right = record { exact = right.passes.exact; fits = right.passes.fits }

  right_by : Formed w → w.first.row < 4294967296 → RowOk D (whole l sc) n (row_of w) → Sized (whole l sc) (cell_at (whole l sc) n) → Right D l sc n
  right_by formed word ok sized = record {
    is_row = decoded_row (words_at l sc n) (nine_words l sc n stands) (subst Formed is_shape formed) (subst (λ (v : Shape). v.first.row < 4294967296) is_shape word);
    passes = record {
      fields = subst (λ (v : Row). RowOk D (whole l sc) n v) (sym row_here) ok;
      exact = sized.exact;
      fits = sized.fits;
    };
  }

  -- THE THREE TESTS IN TURN

  pub not_formed : {b : Bool} → Says (Formed w) b → b ≡ false → Says (Right D l sc n) false
  not_formed says e = says_no (λ right. says.no e (right_formed right))

  pub not_fields : {b : Bool} → Says (RowOk D (whole l sc) n (row_of w)) b → b ≡ false → Says (Right D l sc n) false
  not_fields says e = says_no (λ right. says.no e (right_fields right))

  pub last_sized : {x y z : Bool} → w.first.row < 4294967296 → Says (Formed w) x → x ≡ true → Says (RowOk D (whole l sc) n (row_of w)) y → y ≡ true →
      Says (Sized (whole l sc) (cell_at (whole l sc) n)) z → Says (Right D l sc n) z
  last_sized word sx ex sy ey sz = says_same (right_by (sx.yes ex) word (sy.yes ey)) right_sized sz
