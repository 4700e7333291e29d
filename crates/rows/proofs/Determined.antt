-- The contracts of `rows` fix their answers: what a writing function may answer, and what the row check may.
-- Assumes nothing.
use Prim.Native.Nat.{ℕ, ◌+◌, ◌*◌, ◌/◌, ◌≤◌, ◌<◌}
use native.Mathlib.Omega.{arith}
use mathlib.Core.Path.{◌≡◌, refl, sym, ap, ◌∙◌}
use mathlib.Core.List.{List, [], ◌∷◌, ◌++◌}
use mathlib.Core.Logic.{⊎_elim}
use lib.ListN.{length, take, length-append, get_or-append}
use lib.Seq.{get_or_at}
use Rattle.rules.specs.Rows.{Cell, Store, Got, got, cell_at}
use Rattle.rules.specs.RowCheck.{Passes}
use Rattle.rules.specs.Accepted.{IsRow, part, Keep, Lowest}
use Rattle.course.specs.Charged as course
use Rattle.rows.specs.Refusals.{Out, refused_at}
use Rattle.rows.proofs.RefusalNumbers.{one_number}
use Rattle.std.specs.Prelude.{Result, Ok, Err, ⊤}
use Rattle.rows.specs.declared.refusals.Refused.{Refused}
use Rattle.rows.specs.declared.refusals.Refusal.TheVariants as refusal
use Rattle.rows.specs.Words.{ptr_of, decode, store_of}
use Rattle.rows.specs.Checks.{CheckSays, all_pass, broken}
use Rattle.rows.specs.Writes.{out_of, Wrote}
use Rattle.rows.proofs.Parts.{lt_or_ge, length_rows_of}
use Rattle.rows.proofs.Formed.{is_decoded}
use Rattle.rows.proofs.Agree.{passes_agrees}
use Rattle.rows.proofs.KeptRows.{cell_nth}

-- A WRITING FUNCTION'S ANSWER

rows_in_all : (l sc : List ℕ) (m : ℕ) → length (store_of l sc m) ≡ length l / 9 + m
unfolding store_of
rows_in_all l sc m = simp (length-append, length_rows_of)

pub one_out : (l sc sc' : List ℕ) (r r' : Out) → out_of r l sc ≡ out_of r' l sc' → r ≡ r'
one_out l sc sc' (Ok (p, m)) (Ok (q, n)) e =
    let same : got (store_of l sc m) (ptr_of p) ≡ got (store_of l sc' n) (ptr_of q) = cc in
    let mark : m ≡ n = omega (arith, rows_in_all l sc m, rows_in_all l sc' n, ap (λ (g : Got). length g.store) same) in
    let row : p.row ≡ q.row = ap (λ (g : Got). g.at.row) same in
    let shift : p.shift ≡ q.shift = ap (λ (g : Got). g.at.shift) same in
    λ i. Ok (record { row = row i; shift = shift i }, mark i)
one_out l sc sc' (Ok (p, m)) (Err k) e = cc
one_out l sc sc' (Err k) (Ok (q, n)) e = cc
one_out l sc sc' (Err k) (Err j) e = ap Err (one_number k j (cc))

pub one_wrote : (l sc : List ℕ) (m : ℕ) (out : course.Out) (r r' : Out) (sc₁ sc₂ : List ℕ) → Wrote l sc m r sc₁ out → Wrote l sc m r' sc₂ out → r ≡ r'
one_wrote l sc m out r r' sc₁ sc₂ w w' = one_out l sc₁ sc₂ r r' (w.says ∙ sym w'.says)

-- THE ROW CHECK'S ANSWER

module _ (D : ℕ) (ws : List ℕ) where
  keep_cell : (n : ℕ) (s : Store) → Keep 9 ws IsRow (Passes D) n s → (r : ℕ) → r < n → cell_at s r ≡ decode (part 9 ws r)
  keep_cell n s keep r h = is_decoded (keep.words r (cell_at s r) (cell_nth s r (omega (arith, keep.many))))

  -- where j is the lowest row that breaks its rule, no longer list of rows keeps them
  lowest_breaks : (m j n : ℕ) (s : Store) → Lowest 9 ws IsRow (Passes D) m j → Keep 9 ws IsRow (Passes D) n s → j < n → ⊥
  unfolding cell_at
  lowest_breaks m j n s low keep h =
      let x : Cell = cell_at s j in
      low.breaks x (keep.words j x (cell_nth s j (omega (arith, keep.many)))) (passes_agrees D s (low.lower ++ (x ∷ [])) j same (keep.rules j h))
    where
      same : (r : ℕ) → r ≤ j → cell_at s r ≡ cell_at (low.lower ++ (cell_at s j ∷ [])) r
      same r k =
          ⊎_elim
          (λ (b : r < j). keep_cell n s keep r (omega arith) ∙ sym (keep_cell j low.lower low.keep r b) ∙ sym (get_or-append low.lower (cell_at s j ∷ []) _ r (omega (arith, low.keep.many))))
          (λ (b : j ≤ r). let here : r ≡ j = omega arith in ap (cell_at s) here ∙ sym (get_or_at low.lower (cell_at s j) [] _ r (low.keep.many ∙ sym here)))
          (lt_or_ge r j)

pub one_answer : (D : ℕ) (l sc : List ℕ) (m nlib : ℕ) (r r' : Result ⊤ Refused) → CheckSays D l sc m nlib r → CheckSays D l sc m nlib r' → r ≡ r'
one_answer D l sc m nlib r r' (all_pass keep) (all_pass keep') = refl
one_answer D l sc m nlib r r' (all_pass keep) (broken {j} low) = absurd (lowest_breaks D (l ++ take (9 * m) sc) _ j _ _ low keep low.inside)
one_answer D l sc m nlib r r' (broken {j} low) (all_pass keep) = absurd (lowest_breaks D (l ++ take (9 * m) sc) _ j _ _ low keep low.inside)
one_answer D l sc m nlib r r' (broken {j = i} low) (broken {j = j} low') =
    ⊎_elim
    (λ (h : i < j). absurd (lowest_breaks D (l ++ take (9 * m) sc) _ i j _ low low'.keep h))
    (λ (h : j ≤ i).
    ⊎_elim
    (λ (k : j < i). absurd (lowest_breaks D (l ++ take (9 * m) sc) _ j i _ low' low.keep k))
    (λ (k : i ≤ j). let same : i ≡ j = omega arith in ap (λ (n : ℕ). Err (refused_at refusal.Row n)) same)
    (lt_or_ge j i))
    (lt_or_ge i j)
