-- Parts of nine words: of a prefix, of two lists in a row; and the rows that a list of words stands for, one by one.
-- Assumes nothing.
use Prim.Native.Nat.{ℕ, zero, suc, ◌+◌, ◌*◌, ◌-◌, ◌≤◌, ◌<◌}
use native.Mathlib.Nat.{le_of_suc-le-suc, not-suc-le-zero, suc-add, zero-add}
use native.Mathlib.Omega.{arith}
use mathlib.Core.Path.{◌≡◌, refl, sym, ap, ◌∙◌}
use mathlib.Core.List.{List, [], ◌∷◌, ◌++◌}
use mathlib.Core.Logic.{◌⊎◌, inl, inr}
use mathlib.Core.Bool.{Bool, true, false}
use borrow.Author.Tests.{ltb-true, ltb-false}
use lib.Dec.{ltb}
use lib.ListN.{length, get_or, take, drop, length-drop}
use lib.Seq.{take-nil, take-take, drop-drop, length-take-le, take-append-le, drop-append-le, drop-append-add, ext_get_or}
use Rattle.rules.specs.Rows.{Cell, Store}
use Rattle.rules.specs.Accepted.{part}
use Rattle.rows.specs.Words.{decode, rows_of}

pub lt_or_ge : (a b : ℕ) → (a < b) ⊎ (b ≤ a)
lt_or_ge a b = go (ltb a b) refl
  where
    go : (t : Bool) → ltb a b ≡ t → (a < b) ⊎ (b ≤ a)
    go true e = inl (ltb-true a b e)
    go false e = inr (ltb-false a b e)

-- a list of nine elements or more is those nine and a rest
pub front_nine : (P : List ℕ → Type 0) →
    ((a b c d e f g h i : ℕ) (rest : List ℕ) → P (a ∷ b ∷ c ∷ d ∷ e ∷ f ∷ g ∷ h ∷ i ∷ rest)) → (xs : List ℕ) → 9 ≤ length xs → P xs
front_nine P p [] h = absurd (omega arith)
front_nine P p (a ∷ []) h = absurd (omega arith)
front_nine P p (a ∷ b ∷ []) h = absurd (omega arith)
front_nine P p (a ∷ b ∷ c ∷ []) h = absurd (omega arith)
front_nine P p (a ∷ b ∷ c ∷ d ∷ []) h = absurd (omega arith)
front_nine P p (a ∷ b ∷ c ∷ d ∷ e ∷ []) h = absurd (omega arith)
front_nine P p (a ∷ b ∷ c ∷ d ∷ e ∷ f ∷ []) h = absurd (omega arith)
front_nine P p (a ∷ b ∷ c ∷ d ∷ e ∷ f ∷ g ∷ []) h = absurd (omega arith)
front_nine P p (a ∷ b ∷ c ∷ d ∷ e ∷ f ∷ g ∷ h ∷ []) l = absurd (omega arith)
front_nine P p (a ∷ b ∷ c ∷ d ∷ e ∷ f ∷ g ∷ h ∷ i ∷ rest) l = p a b c d e f g h i rest

-- PARTS

drop-take : (n k : ℕ) (xs : List ℕ) → drop n (take (n + k) xs) ≡ take k (drop n xs)
drop-take zero k xs = rw zero-add
drop-take (suc n) k [] = rw (suc-add, take-nil)
drop-take (suc n) k (x ∷ xs) = rw suc-add (drop-take n k xs)

pub part_length : (ws : List ℕ) (i : ℕ) → 9 * i + 9 ≤ length ws → length (part 9 ws i) ≡ 9
part_length ws i h = length-take-le 9 (drop (9 * i) ws) (simp length-drop (omega arith))

pub part_of_take : (ws : List ℕ) (n i : ℕ) → i < n → part 9 (take (9 * n) ws) i ≡ part 9 ws i
part_of_take ws n i h =
    let e : 9 * n ≡ 9 * i + 9 * (n - i) = omega arith in
    let few : 9 ≤ 9 * (n - i) = omega arith in
    rw (e, drop-take) (take-take 9 (9 * (n - i)) (drop (9 * i) ws) few)

-- two lists that agree on n rows have the same parts there
pub part_same : (ws vs : List ℕ) (n i : ℕ) → take (9 * n) ws ≡ take (9 * n) vs → i < n → part 9 ws i ≡ part 9 vs i
part_same ws vs n i e h = sym (part_of_take ws n i h) ∙ ap (λ (us : List ℕ). part 9 us i) e ∙ part_of_take vs n i h

pub part_left : (l ws : List ℕ) (i : ℕ) → 9 * i + 9 ≤ length l → part 9 (l ++ ws) i ≡ part 9 l i
part_left l ws i h =
    let there : 9 * i ≤ length l = omega arith in
    rw (drop-append-le (9 * i) l ws there) (take-append-le 9 (drop (9 * i) l) ws (simp length-drop (omega arith)))

pub part_right : (l ws : List ℕ) (a i : ℕ) → length l ≡ 9 * a → part 9 (l ++ ws) (a + i) ≡ part 9 ws i
part_right l ws a i e =
    let at : 9 * (a + i) ≡ length l + 9 * i = omega arith in ap (take 9) (ap (λ (n : ℕ). drop n (l ++ ws)) at ∙ drop-append-add l ws (9 * i))

-- ROWS

pub length_rows_of : (n : ℕ) (ws : List ℕ) → length (rows_of n ws) ≡ n
unfolding rows_of
length_rows_of zero ws = refl
length_rows_of (suc n) ws = ap suc (length_rows_of n (drop 9 ws))

pub at_rows_of : (n : ℕ) (ws : List ℕ) (i : ℕ) (d : Cell) → i < n → get_or (rows_of n ws) i d ≡ decode (part 9 ws i)
unfolding rows_of
at_rows_of zero ws i d h = absurd (not-suc-le-zero h)
at_rows_of (suc n) ws zero d h = refl
at_rows_of (suc n) ws (suc i) d h =
    let at : 9 + 9 * i ≡ 9 * suc i = omega arith in
    at_rows_of n (drop 9 ws) i d (le_of_suc-le-suc h) ∙ ap (λ (us : List ℕ). decode (take 9 us)) (drop-drop (9 * i) 9 ws ∙ ap (λ (k : ℕ). drop k ws) at)

-- the rows are read from their words alone
pub rows_of_same : (n : ℕ) (ws vs : List ℕ) → take (9 * n) ws ≡ take (9 * n) vs → rows_of n ws ≡ rows_of n vs
rows_of_same n ws vs e =
    ext_get_or (decode []) (rows_of n ws) (rows_of n vs) (length_rows_of n ws ∙ sym (length_rows_of n vs))
    λ i h.
    let there : i < n = omega (arith, length_rows_of n ws) in
    at_rows_of n ws i (decode []) there ∙ ap decode (part_same ws vs n i e there) ∙ sym (at_rows_of n vs i (decode []) there)

-- one row more
pub rows_of_suc : (n : ℕ) (ws : List ℕ) → rows_of (suc n) ws ≡ rows_of n ws ++ (decode (part 9 ws n) ∷ [])
unfolding rows_of
rows_of_suc zero ws = refl
rows_of_suc (suc n) ws =
    let at : 9 + 9 * n ≡ 9 * suc n = omega arith in
    ap (λ (xs : Store). decode (take 9 ws) ∷ xs)
    (rows_of_suc n (drop 9 ws) ∙ ap (λ (us : List ℕ). rows_of n (drop 9 ws) ++ (decode (take 9 us) ∷ [])) (drop-drop (9 * n) 9 ws ∙ ap (λ (k : ℕ). drop k ws) at))
