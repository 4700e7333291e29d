-- The bound and height that a row's children give, from what each field adds, so that a need cites one of these.
-- Assumes nothing.
use Prim.Native.Nat.{ℕ, zero, suc, ◌+◌, ◌-◌, ◌≤◌, ◌<◌, pred, max}
use native.Mathlib.Omega.{arith}
use native.Mathlib.Numerals.{add-one}
use mathlib.Core.Path.{◌≡◌, refl, sym, ap, ap₂, ◌∙◌}
use Rattle.rules.specs.Kinds.{Tag, plain, term, body}
use Rattle.rules.specs.Rows.{Ptr, Store, cell, cell_at, bound, field_bound, field_height}
use Rattle.rows.specs.declared.kinds.Sizes.{Sizes}
use Rattle.rows.specs.Words.{tag_at, row_by}
use Rattle.rows.specs.Checks.{FieldAdds, sizes_of}
use Rattle.rows.proofs.NineKinds.{row_bound, row_height}

abbrev sizes : ℕ → ℕ → Sizes
sizes b h = record { bound = b; height = h }

pub same_sizes : {b h : ℕ} (z : Sizes) → b ≡ z.bound → h ≡ z.height → sizes b h ≡ z
same_sizes z eb eh = λ i. record { bound = eb i; height = eh i }

-- WHAT A FIELD ADDS

pub plain_adds : (s : Store) (t : Tag) (p : Ptr) → t ≡ plain → FieldAdds s t p (sizes 0 0)
unfolding field_bound field_height
plain_adds s t p e = record { bound = rw e; height = rw e; word = omega arith }

one_less : (n : ℕ) → n - 1 ≡ pred n
one_less zero = refl
one_less (suc n) = omega arith

module _ (s : Store) (t : Tag) (p : Ptr) (b h : ℕ) (is_bound : b ≡ bound s p) (is_height : (cell_at s p.row).height ≡ h) (word : h < 4294967296) where
  pub term_adds : t ≡ term → FieldAdds s t p (sizes b h)
  unfolding field_bound field_height
  term_adds e = record { bound = rw e is_bound; height = rw e (sym is_height); word = word }

  -- a body's bound is counted one less
  pub body_adds : (less : ℕ) → less ≡ b - 1 → t ≡ body → FieldAdds s t p (sizes less h)
  unfolding field_bound field_height
  body_adds less l e = record { bound = rw e (l ∙ one_less b ∙ ap pred is_bound); height = rw e (sym is_height); word = word }

-- the same, from what the child adds as a term
pub inside_adds : (s : Store) (t : Tag) (p : Ptr) (z : Sizes) (less : ℕ) → FieldAdds s term p z → less ≡ z.bound - 1 → t ≡ body →
    FieldAdds s t p (sizes less z.height)
unfolding field_bound field_height
inside_adds s t p z less adds l e = body_adds s t p z.bound z.height adds.bound (sym adds.height) adds.word less l e

-- WHAT A ROW HAS

pub var_sizes : (s : Store) (k : ℕ) (a b c : Ptr) → k ≡ 0 → sizes (a.row + 1) 1 ≡ sizes_of (cell s (row_by k a b c))
unfolding cell row_by
var_sizes s k a b c e = rw (e, add-one)

module _ (s : Store) (a b c : Ptr) (x y z : Sizes) where
  abbrev most_bound : ℕ
  most_bound = max (max x.bound y.bound) z.bound

  abbrev most_height : ℕ
  most_height = max (max x.height y.height) z.height

  pub node_sizes : (k : ℕ) → k ≤ 8 → (k ≡ 0 → ⊥) → FieldAdds s (tag_at k 0) a x → FieldAdds s (tag_at k 1) b y → FieldAdds s (tag_at k 2) c z →
      sizes most_bound (most_height + 1) ≡ sizes_of (cell s (row_by k a b c))
  node_sizes zero h f adds_x adds_y adds_z = absurd (f refl)
  node_sizes (suc k) h f adds_x adds_y adds_z =
      same_sizes _ (ap₂ max (ap₂ max adds_x.bound adds_y.bound) adds_z.bound ∙ sym (row_bound s k a b c h))
      (add-one most_height ∙ ap suc (ap₂ max (ap₂ max adds_x.height adds_y.height) adds_z.height) ∙ sym (row_height s k a b c h))

  -- the same, as the code takes the largest of three: of two, and then of that and the third
  pub largest_sizes : (k b₁ b₂ h₁ h₂ : ℕ) → k ≤ 8 → (k ≡ 0 → ⊥) →
      b₁ ≡ max x.bound y.bound → b₂ ≡ max b₁ z.bound → h₁ ≡ max x.height y.height → h₂ ≡ max h₁ z.height →
      FieldAdds s (tag_at k 0) a x → FieldAdds s (tag_at k 1) b y → FieldAdds s (tag_at k 2) c z →
      sizes b₂ (h₂ + 1) ≡ sizes_of (cell s (row_by k a b c))
  largest_sizes k b₁ b₂ h₁ h₂ h f eb₁ eb₂ eh₁ eh₂ adds_x adds_y adds_z = rw (eb₂, eb₁, eh₂, eh₁) (node_sizes k h f adds_x adds_y adds_z)
