-- From records that are right, one by one, to the rules' words for a list of records: each keeps its rule, or the lowest that does not.
-- Assumes that being right is what the rules ask of a record's words and of its place, both ways; declarations and context records
-- each show that.
use Prim.Native.Nat.{ℕ, ◌≤◌, ◌<◌}
use native.Mathlib.Nat.{zero-add}
use native.Mathlib.Omega.{arith}
use mathlib.Core.Path.{◌≡◌, sym, ap, subst, ◌∙◌}
use mathlib.Core.List.{List, [], ◌∷◌, ◌++◌}
use mathlib.Core.Option.{some}
use Rattle.rules.specs.Declarations.{nth}
use Rattle.rules.specs.Accepted.{part, Keep, Lowest}
use Rattle.tables.specs.Records.{records_from, records_many, records_nth}
use Rattle.tables.proofs.Listed.{some_same, nth_inside, nth_end}

module _ {A : Type 0} (k : ℕ) (ws : List ℕ) (read : List ℕ → A) (Is : List ℕ → A → Type 0) (Ok : List A → ℕ → Type 0)
    (Right : ℕ → Type 0) where
  -- being right is what the rules ask, of the first n records
  pub record Means (n : ℕ) : Type 0 where
    pub is : (i : ℕ) → i < n → Right i → Is (part k ws i) (read (part k ws i))
    pub ok : (i : ℕ) → Right i → (xs : List A) → nth xs i ≡ some (read (part k ws i)) → Ok xs i
    pub right : (i : ℕ) (x : A) → Is (part k ws i) x → (xs : List A) → nth xs i ≡ some x → Ok xs i → Right i

  abbrev lower : ℕ → List A
  lower n = records_from k ws read 0 n

  lower-nth : (n i : ℕ) → i < n → nth (lower n) i ≡ some (read (part k ws i))
  lower-nth n i h = records_nth k ws read 0 n i h ∙ ap (λ (m : ℕ). some (read (part k ws m))) (zero-add i)

  pub keep : (n m : ℕ) → m ≤ n → Means n → ((i : ℕ) → i < m → Right i) → Keep k ws Is Ok m (lower m)
  keep n m few means right = record {
    many = records_many k ws read 0 m;
    words = λ i x q.
        let below : i < m = omega (arith, nth_inside (lower m) i q, records_many k ws read 0 m) in
        subst (Is (part k ws i)) (some_same (sym (lower-nth m i below) ∙ q)) (means.is i (omega arith) (right i below));
    rules = λ i h. means.ok i (right i h) (lower m) (lower-nth m i h);
  }

  pub lowest : (n j : ℕ) → j < n → Means n → ((i : ℕ) → i < j → Right i) → (Right j → ⊥) → Lowest k ws Is Ok n j
  lowest n j inside means right wrong = record {
    inside = inside;
    lower = lower j;
    keep = keep n j (omega arith) means right;
    breaks = λ x is ok. wrong (means.right j x is (lower j ++ (x ∷ [])) (nth_end (lower j) x j (records_many k ws read 0 j)) ok);
  }
