-- The rows that a call has written, as the rules count them and as they stand in their words.
-- Assumes that the rows are held before and after, and that they have grown.
use Prim.Native.Nat.{ℕ, ◌+◌, ◌-◌, ◌<◌}
use native.Mathlib.Omega.{arith}
use mathlib.Core.Path.{◌≡◌, sym, ap, ◌∙◌, subst}
use mathlib.Core.List.{List}
use mathlib.Core.Option.{some}
use lib.ListN.{length}
use Rattle.rules.specs.Rows.{Store, Cell}
use Rattle.rules.specs.Declarations.{nth}
use Rattle.rules.specs.Accepted.{IsRow, part}
use Rattle.safety.specs.Lists.{nth_inside, some_same}
use Rattle.rows.specs.Words.{decode, words_at, store_of, Held}
use Rattle.rows.specs.Writes.{Grown}
use Rattle.rows.proofs.Store.{words_in_scratch, cell_is, held_length}
use Rattle.rows.proofs.KeptRows.{cell_nth}

module _ (l sc sc₁ : List ℕ) (mark mark₁ nlib : ℕ) (before : Held l sc mark nlib) (after : Held l sc₁ mark₁ nlib) (grown : Grown sc mark sc₁ mark₁) where
  abbrev s : Store
  s = store_of l sc mark

  abbrev s₁ : Store
  s₁ = store_of l sc₁ mark₁

  rows_before : length s ≡ nlib + mark
  rows_before = held_length l sc mark nlib before

  rows_after : length s₁ ≡ nlib + mark₁
  rows_after = held_length l sc₁ mark₁ nlib after

  pub rows_counted : length s₁ - length s ≡ mark₁ - mark
  rows_counted = omega (arith, rows_before, rows_after)

  pub mark_moved : mark₁ ≡ mark + (length s₁ - length s)
  mark_moved = omega (arith, rows_before, rows_after, grown.upward)

  -- a new row stands in its nine words
  pub new_row_stands : (i : ℕ) (x : Cell) → nth s₁ (length s + i) ≡ some x → IsRow (part 9 sc₁ (mark + i)) x
  new_row_stands i x found =
      let inside : length s + i < length s₁ = nth_inside s₁ (length s + i) found in
      let row = length s + i in
      let below : row < nlib + mark₁ = omega (arith, rows_after) in
      let place : row ≡ nlib + (mark + i) = omega (arith, rows_before) in
      let written : IsRow (part 9 sc₁ (mark + i)) (decode (part 9 sc₁ (mark + i))) = grown.rows (mark + i) (omega arith) (omega arith) in
      let is : decode (part 9 sc₁ (mark + i)) ≡ x =
      ap decode (sym (words_in_scratch l sc₁ nlib after.whole_library (mark + i)))
      ∙ ap (λ (n : ℕ). decode (words_at l sc₁ n)) (sym place)
      ∙ sym (cell_is l sc₁ nlib after.whole_library mark₁ row below)
      ∙ some_same (sym (cell_nth s₁ row inside) ∙ found) in
      subst (IsRow (part 9 sc₁ (mark + i))) is written
