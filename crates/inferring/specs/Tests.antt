-- Tests that are known to succeed, and tests that are known to fail: what the asks after them are. Assumes nothing.
use Rattle.std.specs.Prelude.{ℕ, zero, suc, ◌<◌, ◌≡◌, refl}
use Rattle.std.proofs.Common.{arith, sym, ap, ◌∙◌}
use Rattle.rules.specs.Kinds.{sort, pi}
use Rattle.rules.specs.Rows.{Ptr, Row, node}
use Rattle.inferring.specs.Views.{EqView, equal, differ, PiView, is_pi, no_pi, SortView, is_sort, no_sort}
use Rattle.inferring.specs.Asks.{Ask, untyped, if_equal, if_pi, if_sort, if_loose}

-- TESTS THAT SUCCEED

pub at_equal : {a b : ℕ} (v : EqView a b) (y : Ask) → a ≡ b → if_equal v y ≡ y
at_equal (equal q) y h = refl
at_equal (differ n) y h = absurd (n h)

pub at_pi : {w : Row} {x b z : Ptr} (v : PiView w) (rest : Ptr → Ptr → Ask) → w ≡ node pi x b z → if_pi v rest ≡ rest x b
at_pi {x = x} {b = b} {z = z} (is_pi x' b' z' q) rest h =
    let r : node pi x' b' z' ≡ node pi x b z = sym q ∙ h in
    let i : x' ≡ x = cc in
    let j : b' ≡ b = cc in
    λ k. rest (i k) (j k)
at_pi {x = x} {b = b} {z = z} (no_pi n) rest h = absurd (n x b z h)

pub at_sort : {w : Row} {l : ℕ} {x y z : Ptr} (v : SortView w) (rest : ℕ → Ask) → w ≡ node (sort l) x y z → if_sort v rest ≡ rest l
at_sort {l = l} {x = x} {y = y} {z = z} (is_sort l' x' y' z' q) rest h =
    let r : node (sort l') x' y' z' ≡ node (sort l) x y z = sym q ∙ h in
    let i : l' ≡ l = cc in
    ap rest i
at_sort {l = l} {x = x} {y = y} {z = z} (no_sort n) rest h = absurd (n l x y z h)

-- AND TESTS THAT FAIL

pub not_equal : {a b : ℕ} (v : EqView a b) (y : Ask) → (a ≡ b → ⊥) → if_equal v y ≡ untyped
not_equal (equal q) y h = absurd (h q)
not_equal (differ n) y h = refl

pub not_pi : {w : Row} (v : PiView w) (rest : Ptr → Ptr → Ask) → ((x b z : Ptr) → w ≡ node pi x b z → ⊥) → if_pi v rest ≡ untyped
not_pi (is_pi x b z q) rest h = absurd (h x b z q)
not_pi (no_pi n) rest h = refl

pub not_sort : {w : Row} (v : SortView w) (rest : ℕ → Ask) → ((l : ℕ) (x y z : Ptr) → w ≡ node (sort l) x y z → ⊥) → if_sort v rest ≡ untyped
not_sort (is_sort l x y z q) rest h = absurd (h l x y z q)
not_sort (no_sort n) rest h = refl

-- a remaining body that has a loose variable
pub at_loose : (n : ℕ) (y z : Ask) → 0 < n → if_loose n y z ≡ z
at_loose zero y z h = absurd (omega arith)
at_loose (suc n) y z h = refl
