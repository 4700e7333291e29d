-- A list of n words, written out word by word. Assumes nothing.
use Rattle.std.specs.Prelude.{ℕ, zero, suc, ◌+◌, ◌≡◌, refl, List, [], ◌∷◌, length, get_or, drop}
use Rattle.std.proofs.Common.{arith, ap, ◌∙◌, drop-cons}

-- n words from word i on
abbrev pub listed : ℕ → ℕ → List ℕ → List ℕ
listed zero i ws = []
listed (suc n) i ws = get_or ws i 0 ∷ listed n (suc i) ws

none_left : (ws : List ℕ) (i : ℕ) → length ws ≡ i → drop i ws ≡ []
none_left [] zero e = refl
none_left [] (suc i) e = refl
none_left (x ∷ ws) zero e = absurd (omega arith)
none_left (x ∷ ws) (suc i) e = none_left ws i (omega arith)

from_word : (n i : ℕ) (ws : List ℕ) → length ws ≡ i + n → drop i ws ≡ listed n i ws
from_word zero i ws e = none_left ws i (omega arith)
from_word (suc n) i ws e =
    drop-cons ws i 0 (omega arith) ∙ ap (λ (us : List ℕ). get_or ws i 0 ∷ us) (from_word n (suc i) ws (omega arith))

pub written_out : (n : ℕ) (ws : List ℕ) → length ws ≡ n → ws ≡ listed n 0 ws
written_out n ws e = from_word n 0 ws (omega arith)
