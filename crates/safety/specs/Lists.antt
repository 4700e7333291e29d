-- Lists by position: what `nth` finds stands in the list, and a list is known by its elements. Assumes nothing.
use Rattle.std.specs.Prelude.{ℕ, zero, suc, ◌<◌, ◌≡◌, refl, List, [], ◌∷◌, ◌++◌, length, get_or}
use Rattle.std.proofs.Common.{arith, ap₂}
use Rattle.std.proofs.Math.Option.{none, some}
use Rattle.rules.specs.Declarations.{nth}

pub nth_inside : {A : Type 0} {x : A} (xs : List A) (i : ℕ) → nth xs i ≡ some x → i < length xs
unfolding nth
nth_inside {x = x} [] i q = absurd (let z : ◌≡◌ {A = ℕ} 0 1 = cc in omega arith)
nth_inside (y ∷ xs) zero q = omega arith
nth_inside (y ∷ xs) (suc i) q = let h = nth_inside xs i q in omega arith

pub nth_there : {A : Type 0} (xs : List A) (i : ℕ) (x : A) → i < length xs → nth xs i ≡ some (get_or xs i x)
unfolding nth
nth_there [] i x h = absurd (omega arith)
nth_there (y ∷ xs) zero x h = refl
nth_there (y ∷ xs) (suc i) x h = nth_there xs i x (omega arith)

-- an option that is there
pub some_same : {A : Type 0} {x y : A} → some x ≡ some y → x ≡ y
some_same q = cc

pub none_some : {A : Type 0} {x : A} → none ≡ some x → ⊥
none_some q = let z : ◌≡◌ {A = ℕ} 0 1 = cc in omega arith

-- two lists of one length whose elements are the same
pub nth_ext : {A : Type 0} (xs ys : List A) → length xs ≡ length ys → ((i : ℕ) (x y : A) → nth xs i ≡ some x → nth ys i ≡ some y → x ≡ y) → xs ≡ ys
unfolding nth
nth_ext [] [] l h = refl
nth_ext [] (y ∷ ys) l h = absurd (omega arith)
nth_ext (x ∷ xs) [] l h = absurd (omega arith)
nth_ext (x ∷ xs) (y ∷ ys) l h = ap₂ ◌∷◌ (h 0 x y refl refl) (nth_ext xs ys (omega arith) λ i. h (suc i))

pub nth_append : {A : Type 0} {x : A} (xs more : List A) (i : ℕ) → nth xs i ≡ some x → nth (xs ++ more) i ≡ some x
unfolding nth
nth_append [] more i q = absurd (none_some q)
nth_append (y ∷ xs) more zero q = q
nth_append (y ∷ xs) more (suc i) q = nth_append xs more i q

pub nth_seam : {A : Type 0} (xs : List A) (x : A) (rest : List A) (i : ℕ) → length xs ≡ i → nth (xs ++ (x ∷ rest)) i ≡ some x
unfolding nth
nth_seam [] x rest zero l = refl
nth_seam [] x rest (suc i) l = absurd (omega arith)
nth_seam (y ∷ xs) x rest zero l = absurd (omega arith)
nth_seam (y ∷ xs) x rest (suc i) l = nth_seam xs x rest i (omega arith)

-- a longer list that has the same elements goes on after the shorter one
pub record Splits {A : Type 0} (xs ys : List A) : Type 0 where
  pub at : A
  pub rest : List A
  pub whole : xs ++ (at ∷ rest) ≡ ys

pub splits : {A : Type 0} (xs ys : List A) → length xs < length ys → ((i : ℕ) (x y : A) → nth xs i ≡ some x → nth ys i ≡ some y → x ≡ y) → Splits xs ys
unfolding nth
splits xs [] l h = absurd (omega arith)
splits [] (y ∷ ys) l h = record { at = y; rest = ys; whole = refl }
splits (x ∷ xs) (y ∷ ys) l h =
    let z = splits xs ys (omega arith) (λ i. h (suc i)) in
    record { at = z.at; rest = z.rest; whole = ap₂ ◌∷◌ (h 0 x y refl refl) z.whole }
