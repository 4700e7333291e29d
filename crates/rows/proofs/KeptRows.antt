-- From rows that are right to the rules' own words for accepted rows: all keep their rule, or the lowest that does not; and the
-- accepted store is the store of the words.
-- Assumes nothing.
use Prim.Native.Nat.{ℕ, zero, suc, ◌+◌, ◌*◌, ◌≤◌, ◌<◌}
use native.Mathlib.Nat.{le_of_suc-le-suc, not-suc-le-zero}
use native.Mathlib.Omega.{arith}
use mathlib.Core.Path.{◌≡◌, refl, sym, ap, subst, ◌∙◌}
use mathlib.Core.List.{List, [], ◌∷◌, ◌++◌}
use mathlib.Core.Logic.{⊎_elim}
use mathlib.Core.Option.{some}
use lib.ListN.{length, take, get_or-append}
use lib.Seq.{length-take-le, take_all, get_or-take, get_or_at, ext_get_or}
use Rattle.rules.specs.Rows.{Cell, Store, cell_at}
use Rattle.rules.specs.RowCheck.{Passes}
use Rattle.rules.specs.Declarations.{nth}
use Rattle.rules.specs.Accepted.{IsRow, part, Keep, Lowest}
use Rattle.rows.specs.Words.{decode, store_of, whole, words_at, Held}
use Rattle.rows.specs.Checks.{Right}
use Rattle.rows.specs.Writes.{AreRows}
use Rattle.rows.proofs.Parts.{lt_or_ge}
use Rattle.rows.proofs.Store.{part_of_words, cell_stands, used_stands, cell_used, held_length, cell_is}
use Rattle.rows.proofs.Formed.{is_decoded}
use Rattle.rows.proofs.Agree.{passes_agrees}

-- the element at a position, with and without a stand-in

nth_below : (s : Store) (i : ℕ) (x : Cell) → nth s i ≡ some x → i < length s
unfolding nth
nth_below [] i x e = absurd (let z : ◌≡◌ {A = ℕ} 0 1 = cc in omega arith)
nth_below (y ∷ s) zero x e = omega arith
nth_below (y ∷ s) (suc i) x e = let h : i < length s = nth_below s i x e in omega arith

nth_cell : (s : Store) (i : ℕ) (x : Cell) → nth s i ≡ some x → cell_at s i ≡ x
unfolding nth cell_at
nth_cell [] i x e = absurd (let z : ◌≡◌ {A = ℕ} 0 1 = cc in omega arith)
nth_cell (y ∷ s) zero x e = cc
nth_cell (y ∷ s) (suc i) x e = nth_cell s i x e

pub cell_nth : (s : Store) (i : ℕ) → i < length s → nth s i ≡ some (cell_at s i)
unfolding nth cell_at
cell_nth [] i h = absurd (not-suc-le-zero h)
cell_nth (y ∷ s) zero h = refl
cell_nth (y ∷ s) (suc i) h = cell_nth s i (le_of_suc-le-suc h)

module _ (D : ℕ) (l sc : List ℕ) (m nlib : ℕ) (held : Held l sc m nlib) where
  abbrev words : List ℕ
  words = l ++ take (9 * m) sc

  words_here : (n : ℕ) → n < nlib + m → part 9 words n ≡ words_at l sc n
  words_here n h = part_of_words l sc nlib held.whole_library m n h

  -- the first n rows
  abbrev lower : ℕ → Store
  lower n = take n (store_of l sc m)

  lower-length : (n : ℕ) → n ≤ nlib + m → length (lower n) ≡ n
  lower-length n h = length-take-le n (store_of l sc m) (let many = held_length l sc m nlib held in omega arith)

  lower_cell : (n r : ℕ) → n ≤ nlib + m → r < n → cell_at (lower n) r ≡ cell_at (whole l sc) r
  unfolding cell_at
  lower_cell n r h k = get_or-take n (store_of l sc m) r _ k ∙ sym (cell_used l sc m nlib held r (omega arith))

  module _ (n : ℕ) (few : n ≤ nlib + m) (right : (k : ℕ) → k < n → Right D l sc k) where
    lower_words : (i : ℕ) (x : Cell) → nth (lower n) i ≡ some x → IsRow (part 9 words i) x
    lower_words i x e =
        let below : i < n = omega (arith, nth_below (lower n) i x e, lower-length n few) in
        let is_cell : decode (words_at l sc i) ≡ x = sym (cell_stands l sc i (used_stands l sc m nlib held i (omega arith))) ∙ sym (lower_cell n i few below) ∙ nth_cell (lower n) i x e in
        rw (words_here i (omega arith)) (subst (λ (y : Cell). IsRow (words_at l sc i) y) is_cell (right i below).is_row)

    keep_lower : Keep 9 words IsRow (Passes D) n (lower n)
    keep_lower = record {
      many = lower-length n few;
      words = lower_words;
      rules = λ i h. passes_agrees D (whole l sc) (lower n) i (λ r k. sym (lower_cell n r few (omega arith))) (right i h).passes;
    }

  -- all rows are right
  pub keep_all : ((k : ℕ) → k < nlib + m → Right D l sc k) → Keep 9 words IsRow (Passes D) (nlib + m) (store_of l sc m)
  keep_all right =
      let whole_store : lower (nlib + m) ≡ store_of l sc m = take_all (nlib + m) (store_of l sc m) (let many = held_length l sc m nlib held in omega arith) in
      subst (λ (s : Store). Keep 9 words IsRow (Passes D) (nlib + m) s) whole_store (keep_lower (nlib + m) (omega arith) right)

  -- row j is not, and each below it is
  module _ (j : ℕ) (inside : j < nlib + m) where
    next_cell : (x : Cell) → x ≡ decode (words_at l sc j) → (r : ℕ) → r ≤ j → cell_at (lower j ++ (x ∷ [])) r ≡ cell_at (whole l sc) r
    unfolding cell_at
    next_cell x e r h =
        ⊎_elim
        (λ (k : r < j). get_or-append (lower j) (x ∷ []) _ r (omega (arith, lower-length j (omega arith))) ∙ lower_cell j r (omega arith) k)
        (λ (k : j ≤ r).
        let here : j ≡ r = omega arith in
        subst (λ (i : ℕ). cell_at (lower j ++ (x ∷ [])) i ≡ cell_at (whole l sc) i) here
        (get_or_at (lower j) x [] _ j (lower-length j (omega arith)) ∙ e ∙ sym (cell_stands l sc j (used_stands l sc m nlib held j inside))))
        (lt_or_ge r j)

    pub lowest : ((k : ℕ) → k < j → Right D l sc k) → (Right D l sc j → ⊥) → Lowest 9 words IsRow (Passes D) (nlib + m) j
    lowest right wrong = record {
      inside = inside;
      lower = lower j;
      keep = keep_lower j (omega arith) right;
      breaks = λ x is passes.
          let e : x ≡ decode (words_at l sc j) = is_decoded is ∙ ap decode (words_here j inside) in
          wrong (record {
            is_row = subst (λ (y : Cell). IsRow (words_at l sc j) y) e (rw (words_here j inside) at is);
            passes = passes_agrees D (lower j ++ (x ∷ [])) (whole l sc) j (next_cell x e) passes;
          });
    }

-- the accepted store is the store of the words
pub kept_store : (l sc : List ℕ) (m nlib : ℕ) → Held l sc m nlib → (Ok : Store → ℕ → Type 0) (s : Store) →
    Keep 9 (l ++ take (9 * m) sc) IsRow Ok (nlib + m) s → s ≡ store_of l sc m
unfolding cell_at
kept_store l sc m nlib held Ok s keep =
    ext_get_or _ s (store_of l sc m) (keep.many ∙ sym (held_length l sc m nlib held))
    λ i h.
    let below : i < nlib + m = omega (arith, keep.many) in
    is_decoded (keep.words i (cell_at s i) (cell_nth s i h)) ∙ ap decode (part_of_words l sc nlib held.whole_library m i below) ∙ sym (cell_is l sc nlib held.whole_library m i below)

-- accepted words are rows
pub kept_are_rows : (l sc : List ℕ) (m nlib : ℕ) → Held l sc m nlib → (Ok : Store → ℕ → Type 0) (s : Store) →
    Keep 9 (l ++ take (9 * m) sc) IsRow Ok (nlib + m) s → AreRows l sc m nlib
kept_are_rows l sc m nlib held Ok s keep = record {
  each = λ n h.
      let is : IsRow (part 9 (l ++ take (9 * m) sc) n) (cell_at s n) = keep.words n (cell_at s n) (cell_nth s n (omega (arith, keep.many))) in
      subst (λ (ws : List ℕ). IsRow ws (decode ws)) (part_of_words l sc nlib held.whole_library m n h) (subst (λ (x : Cell). IsRow (part 9 (l ++ take (9 * m) sc) n) x) (is_decoded is) is);
}
