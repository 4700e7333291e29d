-- Row lookup and what is read of a looked-up part, from plain facts, so that a need cites one of these.
-- Assumes nothing.
use Prim.Native.Nat.{ℕ, zero, suc, ◌+◌, ◌*◌, ◌-◌, ◌≤◌, ◌<◌}
use native.Mathlib.Omega.{arith}
use mathlib.Core.Path.{◌≡◌, refl, sym, ap, subst, ◌∙◌}
use mathlib.Core.List.{List}
use borrow.Author.Tests.{lt-ltb, le-ltb}
use lib.ListN.{length, get_or, take, drop}
use Rattle.rules.specs.Rows.{Ptr, ptr, Row, Cell, Store, cell, cell_at, bound, bound_on, up, up_on}
use Rattle.rows.specs.declared.Shape.{Shape}
use Rattle.rows.specs.declared.kinds.Sizes.{Sizes}
use Rattle.rows.specs.Words.{row_of, shape_at, decode, whole, words_at, Stands, Children}
use Rattle.rows.specs.Checks.{sizes_of}
use Rattle.rows.proofs.Store.{nine_words, cell_stands}

nine : (a : ℕ) → a + 9 - a ≡ 9
nine a = omega arith

pub read_library : (l sc : List ℕ) (n : ℕ) → 9 * n < length l → take 9 (drop (9 * n) l) ≡ words_at l sc n
unfolding words_at
read_library l sc n h = simp (lt-ltb _ _ h)

pub read_scratch : (l sc : List ℕ) (n : ℕ) → length l ≤ 9 * n → take 9 (drop (9 * n - length l) sc) ≡ words_at l sc n
unfolding words_at
read_scratch l sc n h = simp (le-ltb _ _ h)

-- a part that a lookup gave
module _ (l sc : List ℕ) (n : ℕ) (stands : Stands l sc n) (ws : List ℕ) (read : ws ≡ words_at l sc n) where
  pub nine_read : length ws ≡ 9
  nine_read = ap length read ∙ nine_words l sc n stands

  pub cell_read : cell_at (whole l sc) n ≡ decode ws
  cell_read = cell_stands l sc n stands ∙ ap decode (sym read)

  pub shape_read : (w : Shape) → w ≡ shape_at ws → w ≡ shape_at (words_at l sc n)
  shape_read w e = e ∙ ap shape_at read

  pub row_read : (w : Shape) → w ≡ shape_at ws → (cell_at (whole l sc) n).row ≡ row_of w
  unfolding decode
  row_read w e = ap (λ (x : Cell). x.row) cell_read ∙ ap row_of (sym e)

  pub children_read : (w : Shape) → w ≡ shape_at ws → Children l sc (shape_at (words_at l sc n)) → Children l sc w
  children_read w e children = subst (λ (v : Shape). Children l sc v) (sym (shape_read w e)) children

  pub sizes_read : (w : Shape) (z : Sizes) → w ≡ shape_at ws → z ≡ sizes_of (cell (whole l sc) (row_of w)) →
      z ≡ sizes_of (cell (whole l sc) (cell_at (whole l sc) n).row)
  sizes_read w z e size = size ∙ ap (λ (r : Row). sizes_of (cell (whole l sc) r)) (sym (row_read w e))

  pub bound_read : (b : ℕ) → b ≡ get_or ws 7 0 → (cell_at (whole l sc) n).bound ≡ b
  unfolding decode
  bound_read b e = ap (λ (x : Cell). x.bound) cell_read ∙ sym e

  pub height_read : (h : ℕ) → h ≡ get_or ws 8 0 → (cell_at (whole l sc) n).height ≡ h
  unfolding decode
  height_read h e = ap (λ (x : Cell). x.height) cell_read ∙ sym e

-- a pointer's bound and shifting, by the row's bound
module _ (s : Store) (p : Ptr) (b : ℕ) (is_bound : (cell_at s p.row).bound ≡ b) where
  pub closed_bound : b ≡ 0 → 0 ≡ bound s p
  closed_bound e = rw (is_bound ∙ e)

  pub open_bound : (b ≡ 0 → ⊥) → b + p.shift ≡ bound s p
  open_bound f = rw is_bound (go b f)
    where
      go : (n : ℕ) → (n ≡ 0 → ⊥) → n + p.shift ≡ bound_on n p.shift
      go zero g = absurd (g refl)
      go (suc n) g = refl

  pub closed_up : (k : ℕ) → b ≡ 0 → p ≡ up s p k
  closed_up k e = rw (is_bound ∙ e)

  pub open_up : (k : ℕ) → (b ≡ 0 → ⊥) → ptr p.row (p.shift + k) ≡ up s p k
  open_up k f = rw is_bound (go b f)
    where
      go : (n : ℕ) → (n ≡ 0 → ⊥) → ptr p.row (p.shift + k) ≡ up_on n p k
      go zero g = absurd (g refl)
      go (suc n) g = refl
