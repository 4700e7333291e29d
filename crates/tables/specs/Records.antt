-- Lists of records of k words, read one by one, and the law that whatever keeps the rules of crates/rules is what is read here.
use Prim.Native.Nat.{ℕ, zero, suc, ◌+◌, ◌<◌}
use Rattle.std.proofs.Common.{add-zero, arith, sym, ◌∙◌}
use Rattle.std.specs.Prelude.{◌≡◌, length}
use Rattle.std.proofs.Math.Path.{refl, ap, ap₂}
use mathlib.Core.List.{List, [], ◌∷◌}
use Rattle.std.proofs.Math.Option.{none, some}
use Rattle.rules.specs.Declarations.{nth}
use Rattle.rules.specs.Accepted.{part}

module _ {A : Type 0} (k : ℕ) (ws : List ℕ) (read : List ℕ → A) where
  -- n records from record i on
  unfoldable pub records_from : ℕ → ℕ → List A
  records_from i zero = []
  records_from i (suc n) = read (part k ws i) ∷ records_from (suc i) n

  pub records_many : (i n : ℕ) → length (records_from i n) ≡ n
  unfolding records_from
  records_many i zero = refl
  records_many i (suc n) = ap suc (records_many (suc i) n)

  pub records_nth : (i n j : ℕ) → j < n → nth (records_from i n) j ≡ some (read (part k ws (i + j)))
  unfolding records_from nth
  records_nth i zero j h = absurd (omega arith)
  records_nth i (suc n) zero h = ap (λ (x : ℕ). some (read (part k ws x))) (sym (add-zero i))
  records_nth i (suc n) (suc j) h = records_nth (suc i) n j (omega arith) ∙ ap (λ (x : ℕ). some (read (part k ws x))) (omega arith)

  pub records_past : (i n j : ℕ) → (j < n → ⊥) → nth (records_from i n) j ≡ none
  unfolding records_from nth
  records_past i zero j h = refl
  records_past i (suc n) zero h = absurd (h (omega arith))
  records_past i (suc n) (suc j) h = records_past (suc i) n j (λ l. h (omega arith))

  -- a list whose elements are what is read is the list that is read
  pub records_are : (i n : ℕ) (xs : List A) → length xs ≡ n → ((j : ℕ) (x : A) → nth xs j ≡ some x → x ≡ read (part k ws (i + j))) → xs ≡ records_from i n
  unfolding records_from nth
  records_are i zero [] q h = refl
  records_are i zero (x ∷ xs) q h = absurd (omega arith)
  records_are i (suc n) [] q h = absurd (omega arith)
  records_are i (suc n) (x ∷ xs) q h =
      ap₂ ◌∷◌ (h 0 x refl ∙ ap (λ (j : ℕ). read (part k ws j)) (add-zero i))
      (records_are (suc i) n xs (omega arith) (λ j y e. h (suc j) y e ∙ ap (λ (l : ℕ). read (part k ws l)) (omega arith)))
