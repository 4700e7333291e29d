-- Lists of a known length, written out; a tail of zeros; the element at a position.
-- Assumes nothing.
use Prim.Native.Nat.{ℕ, zero, suc, ◌+◌, ◌*◌, ◌-◌, ◌≤◌, ◌<◌}
use native.Mathlib.Omega.{arith}
use mathlib.Core.Path.{◌≡◌, refl, sym, ap, ◌∙◌}
use mathlib.Core.List.{List, [], ◌∷◌, ◌++◌}
use mathlib.Core.Option.{some}
use lib.ListN.{length, get_or, drop, replicate, length-drop}
use lib.Seq.{drop-cons, get_or-drop, length-take-le}
use Rattle.rules.specs.Declarations.{nth}
use Rattle.rules.specs.Accepted.{part}
use Rattle.tables.specs.Clauses.{Idle}

-- n words from word i on
abbrev pub listed : ℕ → ℕ → List ℕ → List ℕ
listed zero i ws = []
listed (suc n) i ws = get_or ws i 0 ∷ listed n (suc i) ws

no_words : (ws : List ℕ) (i : ℕ) → length ws ≡ i → drop i ws ≡ []
no_words [] zero e = refl
no_words [] (suc i) e = refl
no_words (x ∷ ws) zero e = absurd (omega arith)
no_words (x ∷ ws) (suc i) e = no_words ws i (omega arith)

from_word : (n i : ℕ) (ws : List ℕ) → length ws ≡ i + n → drop i ws ≡ listed n i ws
from_word zero i ws e = no_words ws i (omega arith)
from_word (suc n) i ws e =
    drop-cons ws i 0 (omega arith) ∙ ap (λ (us : List ℕ). get_or ws i 0 ∷ us) (from_word n (suc i) ws (omega arith))

-- a list of n words is its words, written out
pub written_out : (n : ℕ) (ws : List ℕ) → length ws ≡ n → ws ≡ listed n 0 ws
written_out n ws e = from_word n 0 ws (omega arith)

-- record i of a list that is long enough is whole
pub part_whole : (k : ℕ) (ws : List ℕ) (i : ℕ) → k * i + k ≤ length ws → length (part k ws i) ≡ k
part_whole k ws i h = length-take-le k (drop (k * i) ws) (simp length-drop (omega arith))

zeros : (k i : ℕ) → ◌≡◌ {A = ℕ} (get_or (replicate k 0) i 0) 0
zeros zero i = refl
zeros (suc k) zero = refl
zeros (suc k) (suc i) = zeros k i

-- words that end in zeros
pub idle_tail : (n k : ℕ) (ws : List ℕ) → drop n ws ≡ replicate k 0 → Idle n ws
idle_tail n k ws e = record {
  each = λ i h _.
      let at : i ≡ n + (i - n) = omega arith in
      ap (λ (m : ℕ). get_or ws m 0) at ∙ sym (get_or-drop n ws (i - n) 0) ∙ ap (λ (us : List ℕ). get_or us (i - n) 0) e ∙ zeros k (i - n);
}

-- THE ELEMENT AT A POSITION

pub some_same : {A : Type 0} {x y : A} → some x ≡ some y → x ≡ y
some_same q = cc

pub nth_inside : {A : Type 0} {x : A} (xs : List A) (i : ℕ) → nth xs i ≡ some x → i < length xs
unfolding nth
nth_inside [] i q = cc
nth_inside (y ∷ xs) zero q = omega arith
nth_inside (y ∷ xs) (suc i) q = let h = nth_inside xs i q in omega arith

pub nth_there : {A : Type 0} (xs : List A) (i : ℕ) (x : A) → i < length xs → nth xs i ≡ some (get_or xs i x)
unfolding nth
nth_there [] i x h = absurd (omega arith)
nth_there (y ∷ xs) zero x h = refl
nth_there (y ∷ xs) (suc i) x h = nth_there xs i x (omega arith)

pub nth_get_d : {A : Type 0} {x : A} (xs : List A) (i : ℕ) (y : A) → nth xs i ≡ some x → get_or xs i y ≡ x
nth_get_d xs i y q = some_same (sym (nth_there xs i y (nth_inside xs i q)) ∙ q)

-- one more at the end
pub nth_end : {A : Type 0} (xs : List A) (x : A) (i : ℕ) → length xs ≡ i → nth (xs ++ (x ∷ [])) i ≡ some x
unfolding nth
nth_end [] x zero l = refl
nth_end [] x (suc i) l = absurd (omega arith)
nth_end (y ∷ xs) x zero l = absurd (omega arith)
nth_end (y ∷ xs) x (suc i) l = nth_end xs x i (omega arith)
