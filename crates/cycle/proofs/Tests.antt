-- The tests that come before a side reduction, from what the code reads: which operands, which recursor and which major.
-- Assumes nothing.
use Prim.Native.Nat.{ℕ, ◌≤◌}
use native.Mathlib.Omega as O
use mathlib.Core.Path.{◌≡◌, refl}
use mathlib.Core.Bool.{Bool, true, false}
use mathlib.Core.List.{List, [], ◌∷◌}
use mathlib.Core.Option.{Option, none, some}
use lib.Dec.{eqb}
use lib.ListN.{length}
use borrow.Author.Tests.{eq-eqb, ne_eqb}
use Rattle.rules.specs.Rows.{Ptr}
use Rattle.rules.specs.Arithmetic.{Op}
use Rattle.rules.specs.Declarations.{Recursor}
use Rattle.rules.specs.Declarations.{Decl, Env, nth}
use Rattle.rules.specs.HeadTests.{given, provided, recursor_of, major_position, rec_parts_of, rec_parts, operation_of, tried, operands_of, exactly_two, operands}
use Rattle.safety.specs.Lists.{nth_inside}

-- THE OPERANDS: exactly two
module _ (e : Env) (D : Decl) (xs : List Ptr) where
  pub not_an_operation : operation_of D.role ≡ none → operands e D xs ≡ none
  unfolding operands
  not_an_operation q = rw q

  module _ {o : Op} (of : operation_of D.role ≡ some o) where
    pub truths_not_held : tried e o ≡ false → operands e D xs ≡ none
    unfolding operands
    truths_not_held q = rw (of, q)

    not_two : (ys : List Ptr) → (length ys ≡ 2 → ⊥) → exactly_two o ys ≡ none
    not_two [] h = refl
    not_two (a ∷ []) h = refl
    not_two (a ∷ b ∷ []) h = absurd (h refl)
    not_two (a ∷ b ∷ c ∷ ys) h = refl

    none_either : {A : Type 0} (b : Bool) → provided {A = A} b none ≡ none
    none_either true = refl
    none_either false = refl

    pub not_two_operands : (length xs ≡ 2 → ⊥) → operands e D xs ≡ none
    unfolding operands
    not_two_operands h = rw (of, not_two xs h) (none_either (tried e o))

    are_two : (ys : List Ptr) {a b : Ptr} → length ys ≡ 2 → nth ys 0 ≡ some a → nth ys 1 ≡ some b → exactly_two o ys ≡ some (operands_of o a b)
    unfolding nth
    are_two [] h p q = absurd (omega O.arith)
    are_two (a ∷ []) h p q = absurd (omega O.arith)
    are_two (a ∷ b ∷ []) h p q = cc
    are_two (a ∷ b ∷ c ∷ ys) h p q = absurd (omega O.arith)

    pub two_operands : {a b : Ptr} → tried e o ≡ true → length xs ≡ 2 → nth xs 0 ≡ some a → nth xs 1 ≡ some b → operands e D xs ≡ some (operands_of o a b)
    unfolding operands
    two_operands t h p q = rw (of, t) (are_two xs h p q)

-- THE RECURSOR AND ITS MAJOR
module _ (D : Decl) (n : ℕ) (xs : List Ptr) where
  pub other_levels : (D.levels ≡ n → ⊥) → rec_parts D n xs ≡ none
  unfolding rec_parts
  other_levels h = rw (ne_eqb D.levels n h)

  pub not_a_recursor : recursor_of D.form ≡ none → rec_parts D n xs ≡ none
  unfolding rec_parts
  not_a_recursor q = rw q (either (eqb D.levels n))
    where
      either : (b : Bool) → given (provided {A = Recursor} b none) (λ r. given (nth xs (major_position r)) (λ x. some (rec_parts_of r x))) ≡ none
      either true = refl
      either false = refl

  module _ {o : Recursor} (same : D.levels ≡ n) (of : recursor_of D.form ≡ some o) where
    pub no_major : length xs ≤ major_position o → rec_parts D n xs ≡ none
    unfolding rec_parts
    no_major h = rw (eq-eqb D.levels n same, of) (on (nth xs (major_position o)) refl)
      where
        on : (x : Option Ptr) → nth xs (major_position o) ≡ x → given x (λ x. some (rec_parts_of o x)) ≡ none
        on none q = refl
        on (some a) q = absurd (omega (O.arith, nth_inside xs (major_position o) q))

    pub the_major : {x : Ptr} → nth xs (major_position o) ≡ some x → rec_parts D n xs ≡ some (rec_parts_of o x)
    unfolding rec_parts
    the_major q = rw (eq-eqb D.levels n same, of, q)
