-- A test's answer that says whether something holds: from the machine's tests, and from what is known where the code answers.
-- Assumes nothing.
use Prim.Native.Nat.{ℕ, ◌≤◌, ◌<◌}
use native.Mathlib.Omega.{arith}
use mathlib.Core.Path.{◌≡◌}
use mathlib.Core.Bool.{Bool, true, false}
use borrow.Author.Tests.{ltb-true, ltb-false, leb-true, leb-false, eqb-true, eqb-false}
use lib.Dec.{ltb, leb, eqb}
use Rattle.rows.specs.Checks.{Says}

true_not_false : true ≡ false → ⊥
true_not_false e = let z : ◌≡◌ {A = ℕ} 1 0 = cc in omega arith

pub says_yes : {P : Type 0} → P → Says P true
says_yes p = record { yes = λ _. p; no = λ e _. true_not_false e }

pub says_no : {P : Type 0} → (P → ⊥) → Says P false
says_no f = record { yes = λ e. absurd (let z : ◌≡◌ {A = ℕ} 1 0 = cc in omega arith); no = λ _. f }

-- an answer on one fact is an answer on another that holds where it does
pub says_same : {P Q : Type 0} {b : Bool} → (P → Q) → (Q → P) → Says P b → Says Q b
says_same f g s = record { yes = λ e. f (s.yes e); no = λ e q. s.no e (g q) }

pub says_equal : (m n : ℕ) → Says (m ≡ n) (eqb m n)
says_equal m n = record { yes = eqb-true m n; no = eqb-false m n }

pub says_at_most : (m n : ℕ) → Says (m ≤ n) (leb m n)
says_at_most m n = record { yes = leb-true m n; no = λ e h. let g : n < m = leb-false m n e in omega arith }

pub says_below : (m n : ℕ) → Says (m < n) (ltb m n)
says_below m n = record { yes = ltb-true m n; no = λ e h. let g : n ≤ m = ltb-false m n e in omega arith }
