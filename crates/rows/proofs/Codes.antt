-- What the code's enums say of the numbers that they stand for. Assumes nothing.
use Prim.Native.Nat.{ℕ, ◌≤◌}
use native.Mathlib.Omega.{arith}
use mathlib.Core.Path.{◌≡◌, refl, sym, ap, ◌∙◌}
use mathlib.Core.List.{[], ◌∷◌}
use lib.ListN.{get_or}
use Rattle.std.specs.Prelude.{Result, Ok, Err, is_ok, true}
use Rattle.rules.specs.Kinds as rules
use Rattle.rows.specs.declared.kinds.Kind.{Kind}
use Rattle.rows.specs.declared.kinds.Kind.TheVariants.{Variable, Sort, Constant, Application, Lambda, Pi, Let, Projection, Number}
use Rattle.rows.specs.declared.kinds.UnknownCode.{UnknownCode}
use Rattle.rows.specs.declared.kinds.Tag.{Tag}
use Rattle.rows.specs.declared.kinds.Tag.TheVariants.{Plain, Term, Body}
use Rattle.rows.specs.Kinds.{code_of, IsKind, tag_of}

-- a kind up to 8 is one of the nine
pub kind_known : (code : ℕ) (r : Result Kind UnknownCode) → code ≤ 8 → IsKind code r → is_ok r ≡ true
kind_known code (Ok k) h is = refl
kind_known code (Err e) h is = absurd (omega arith)

-- each at its number
kind_at : ℕ → Kind
kind_at n = get_or (Variable ∷ Sort ∷ Constant ∷ Application ∷ Lambda ∷ Pi ∷ Let ∷ Projection ∷ Number ∷ []) n Variable

read_back : (k : Kind) → kind_at (code_of k) ≡ k
unfolding kind_at
read_back Variable = refl
read_back Sort = refl
read_back Constant = refl
read_back Application = refl
read_back Lambda = refl
read_back Pi = refl
read_back Let = refl
read_back Projection = refl
read_back Number = refl

one_kind : (k j : Kind) → code_of k ≡ code_of j → k ≡ j
one_kind k j e = sym (read_back k) ∙ ap kind_at e ∙ read_back j

-- another kind has another number
pub not_code : {k : Kind} (j : Kind) {n : ℕ} → (k ≡ j → ⊥) → code_of k ≡ n → n ≡ code_of j → ⊥
not_code {k} j f e q = f (one_kind k j (e ∙ q))

-- a field that is not plain by the code's mark is not plain by the table
pub not_plain : {t : Tag} {τ : rules.Tag} → (t ≡ Plain → ⊥) → tag_of t ≡ τ → τ ≡ rules.plain → ⊥
not_plain {t} f e p = go t f (e ∙ p)
  where
    go : (t : Tag) → (t ≡ Plain → ⊥) → tag_of t ≡ rules.plain → ⊥
    go Plain f e = f refl
    go Term f e = cc
    go Body f e = cc
