-- Two refusals with one number are one, and so are the parts of two answers that are one. Assumes nothing.
use mathlib.Core.Path.{◌≡◌, refl, sym, ap, ◌∙◌}
use Prim.Native.Nat.{ℕ}
use mathlib.Core.List.{[], ◌∷◌}
use lib.ListN.{get_or}
use Rattle.rows.specs.declared.refusals.Refusal.{Refusal}
use Rattle.rows.specs.declared.refusals.Refusal.TheVariants.{Sizes, Row, Table, NoStep, NoFreeRow, NoLevel, TooLarge, NoSize, NoType, SortLevel, NoRecord}
use Rattle.std.specs.Prelude.{Ok, Err}
use Rattle.rows.specs.declared.Ptr.{Ptr}
use Rattle.rows.specs.Refusals.{Out, number_of}

-- each at its number; none has 0
of_number : ℕ → Refusal
of_number n = get_or (Sizes ∷ Sizes ∷ Row ∷ Table ∷ NoStep ∷ NoFreeRow ∷ NoLevel ∷ TooLarge ∷ NoSize ∷ NoType ∷ SortLevel ∷ NoRecord ∷ []) n Sizes

read_back : (k : Refusal) → of_number (number_of k) ≡ k
unfolding of_number
read_back Sizes = refl
read_back Row = refl
read_back Table = refl
read_back NoStep = refl
read_back NoFreeRow = refl
read_back NoLevel = refl
read_back TooLarge = refl
read_back NoSize = refl
read_back NoType = refl
read_back SortLevel = refl
read_back NoRecord = refl

pub one_number : (k j : Refusal) → number_of k ≡ number_of j → k ≡ j
one_number k j e = sym (read_back k) ∙ ap of_number e ∙ read_back j

-- two answers that are one have one mark and one pointer
pub same_mark : {p q : Ptr} {m n : ℕ} → ◌≡◌ {A = Out} (Ok (p, m)) (Ok (q, n)) → m ≡ n
same_mark e = ap mark_of e
  where
    mark_of : Out → ℕ
    mark_of (Ok (p, m)) = m
    mark_of (Err k) = 0

pub same_at : {p q : Ptr} {m n : ℕ} → ◌≡◌ {A = Out} (Ok (p, m)) (Ok (q, n)) → p ≡ q
same_at {p} e = ap at_of e
  where
    at_of : Out → Ptr
    at_of (Ok (q, m)) = q
    at_of (Err k) = p
