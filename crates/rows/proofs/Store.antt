-- What the store of two slices holds: its length, each row as the nine words where it stands, and what a write at the mark does.
-- Assumes nothing.
use Prim.Native.Nat.{ℕ, suc, ◌+◌, ◌*◌, ◌-◌, ◌/◌, ◌≤◌, ◌<◌}
use native.Mathlib.Omega.{arith}
use mathlib.Core.Path.{◌≡◌, sym, ap, ◌∙◌, subst}
use mathlib.Core.List.{List, [], ◌∷◌, ◌++◌, append_assoc}
use mathlib.Core.Logic.{⊎_elim}
use borrow.Author.Tests.{lt-ltb, le-ltb}
use lib.ListN.{length, take, length-append, get_or-append}
use lib.Seq.{get_or-append-add}
use Rattle.rules.specs.Rows as rules
use Rattle.rules.specs.Rows.{Cell, Store, cell_at, row_at, bound, up}
use Rattle.rules.specs.Accepted.{part}
use Rattle.rows.specs.declared.Shape.{Shape}
use Rattle.rows.specs.Words.{row_of, shape_at, decode, rows_of, store_of, whole, words_at, Stands, Held}
use Rattle.rows.proofs.Parts.{lt_or_ge, part_length, part_of_take, part_left, part_right, length_rows_of, at_rows_of, rows_of_same, rows_of_suc}

-- a library of a rows
module _ (l sc : List ℕ) (a : ℕ) (rows : length l ≡ 9 * a) where
  pub words_in_library : (n : ℕ) → n < a → words_at l sc n ≡ part 9 l n
  unfolding words_at
  words_in_library n h =
      let there : 9 * n < length l = omega arith in simp (lt-ltb _ _ there)

  pub words_in_scratch : (i : ℕ) → words_at l sc (a + i) ≡ part 9 sc i
  unfolding words_at
  words_in_scratch i =
      let past : length l ≤ 9 * (a + i) = omega arith in
      let at : 9 * (a + i) - length l ≡ 9 * i = omega arith in
      simp (le-ltb _ _ past, at)

  -- what holds of each library row and each scratch row holds of each row
  pub by_place : (P : ℕ → Type 0) (m n : ℕ) → ((k : ℕ) → k < a → P k) → ((i : ℕ) → i < m → P (a + i)) → n < a + m → P n
  by_place P m n f g h =
      ⊎_elim (λ (k : n < a). f n k)
      (λ (k : a ≤ n).
      let there : n - a < m = omega arith in
      let at : a + (n - a) ≡ n = omega arith in
      subst P at (g (n - a) there))
      (lt_or_ge n a)

  pub words_length : (m n : ℕ) → 9 * m ≤ length sc → n < a + m → length (words_at l sc n) ≡ 9
  words_length m n room =
      by_place (λ (k : ℕ). length (words_at l sc k) ≡ 9) m n
      (λ k h. ap length (words_in_library k h) ∙ part_length l k (omega arith))
      (λ i h. ap length (words_in_scratch i) ∙ part_length sc i (omega arith))

  -- the words of the rules' acceptance are the words where they stand
  pub part_of_words : (m n : ℕ) → n < a + m → part 9 (l ++ take (9 * m) sc) n ≡ words_at l sc n
  part_of_words m n =
      by_place (λ (k : ℕ). part 9 (l ++ take (9 * m) sc) k ≡ words_at l sc k) m n
      (λ k h. part_left l (take (9 * m) sc) k (omega arith) ∙ sym (words_in_library k h))
      (λ i h. part_right l (take (9 * m) sc) a i rows ∙ part_of_take sc m i h ∙ sym (words_in_scratch i))

  pub store_is : (m : ℕ) → store_of l sc m ≡ rows_of a l ++ rows_of m sc
  unfolding store_of
  store_is m =
      let count : length l / 9 ≡ a = omega arith in ap (λ (n : ℕ). rows_of n l ++ rows_of m sc) count

  pub store_length : (m : ℕ) → length (store_of l sc m) ≡ a + m
  store_length m = ap length (store_is m) ∙ simp (length-append, length_rows_of)

  -- each row of the store is the nine words where it stands
  pub cell_is : (m n : ℕ) → n < a + m → cell_at (store_of l sc m) n ≡ decode (words_at l sc n)
  unfolding cell_at
  cell_is m n =
      by_place (λ (k : ℕ). cell_at (store_of l sc m) k ≡ decode (words_at l sc k)) m n
      (λ k h.
      ap (λ (s : Store). cell_at s k) (store_is m)
      ∙ get_or-append (rows_of a l) (rows_of m sc) _ k (omega (arith, length_rows_of a l))
      ∙ at_rows_of a l k _ h
      ∙ ap decode (sym (words_in_library k h)))
      (λ i h.
      ap (λ (s : Store). cell_at s (a + i)) (store_is m)
      ∙ ap (λ (k : ℕ). cell_at (rows_of a l ++ rows_of m sc) (k + i)) (sym (length_rows_of a l))
      ∙ get_or-append-add (rows_of a l) (rows_of m sc) i _
      ∙ at_rows_of m sc i _ h
      ∙ ap decode (sym (words_in_scratch i)))

  -- a write at the mark appends its row
  pub store_suc : (m : ℕ) → store_of l sc (suc m) ≡ store_of l sc m ++ (decode (part 9 sc m) ∷ [])
  store_suc m =
      store_is (suc m)
      ∙ ap (λ (s : Store). rows_of a l ++ s) (rows_of_suc m sc)
      ∙ sym (append_assoc (rows_of a l) (rows_of m sc) (decode (part 9 sc m) ∷ []))
      ∙ ap (λ (s : Store). s ++ (decode (part 9 sc m) ∷ [])) (sym (store_is m))

-- the store reads the used scratch words alone
pub store_same : (l sc sc' : List ℕ) (m : ℕ) → take (9 * m) sc ≡ take (9 * m) sc' → store_of l sc m ≡ store_of l sc' m
unfolding store_of
store_same l sc sc' m e = ap (λ (s : Store). rows_of (length l / 9) l ++ s) (rows_of_same m sc sc' e)

-- A ROW THAT STANDS

-- a lower row stands too
pub lower_stands : {l sc : List ℕ} {n r : ℕ} → Stands l sc n → r < n → Stands l sc r
lower_stands stands h = record { whole_library = stands.whole_library; whole_scratch = stands.whole_scratch; there = let there = stands.there in omega arith }

module _ (l sc : List ℕ) (n : ℕ) (stands : Stands l sc n) where
  rows_in_library : length l ≡ 9 * (length l / 9)
  rows_in_library = omega arith

  row_among : n < length l / 9 + length sc / 9
  row_among = omega arith

  pub nine_words : length (words_at l sc n) ≡ 9
  nine_words = words_length l sc (length l / 9) rows_in_library (length sc / 9) n (omega arith) row_among

  pub cell_stands : cell_at (whole l sc) n ≡ decode (words_at l sc n)
  cell_stands = cell_is l sc (length l / 9) rows_in_library (length sc / 9) n row_among

-- A ROW BELOW THE MARK

module _ (l sc : List ℕ) (m nlib : ℕ) (held : Held l sc m nlib) (n : ℕ) (used : n < nlib + m) where
  pub used_stands : Stands l sc n
  used_stands = record { whole_library = omega arith; whole_scratch = held.whole_scratch; there = omega arith }

  -- what a lookup reads there is the row of the store
  pub cell_used : cell_at (whole l sc) n ≡ cell_at (store_of l sc m) n
  cell_used = cell_stands l sc n used_stands ∙ sym (cell_is l sc nlib held.whole_library m n used)

  pub row_used : (w : Shape) → w ≡ shape_at (words_at l sc n) → row_at (store_of l sc m) n ≡ row_of w
  unfolding decode
  row_used w e = ap (λ (x : Cell). x.row) (cell_is l sc nlib held.whole_library m n used) ∙ ap row_of (sym e)

  pub bound_used : (k : ℕ) → bound (whole l sc) (rules.ptr n k) ≡ bound (store_of l sc m) (rules.ptr n k)
  bound_used k = ap (λ (x : Cell). rules.bound_on x.bound k) cell_used

  pub up_used : (k j : ℕ) → up (whole l sc) (rules.ptr n k) j ≡ up (store_of l sc m) (rules.ptr n k) j
  up_used k j = ap (λ (x : Cell). rules.up_on x.bound (rules.ptr n k) j) cell_used

pub held_length : (l sc : List ℕ) (m nlib : ℕ) → Held l sc m nlib → length (store_of l sc m) ≡ nlib + m
held_length l sc m nlib held = store_length l sc nlib held.whole_library m
