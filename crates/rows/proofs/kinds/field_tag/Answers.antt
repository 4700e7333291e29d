-- `rows::kinds::field_tag` meets its contract: kind by kind, field by field, the code's mark is the one that the rules' table has.
-- Assumes nothing.
use Rattle.std.proofs.Common.{slice_index_or}
use mathlib.Core.Path.{◌≡◌, refl}
use mathlib.Core.List.{List, [], ◌∷◌}
use Prim.Native.Nat.{ℕ, ◌≤◌, ◌<◌}
use Rattle.rules.specs.Kinds.{table}
use Rattle.rows.specs.declared.kinds.Tag.{Tag}
use Rattle.rows.specs.declared.kinds.Tag.TheVariants.{Plain, Term, Body}
use Rattle.rows.specs.Words.{tags_at, tag_at}
use Rattle.rows.specs.Kinds.{tag_of}
use Rattle.rows.proofs.NineKinds.{each_kind, each_field}
use Rattle.rows.proofs.kinds.field_tag.Goals as goal

marks : List (List Tag)
marks =
    (Plain ∷ Plain ∷ Plain ∷ [])
    ∷ (Plain ∷ Plain ∷ Plain ∷ [])
    ∷ (Plain ∷ Plain ∷ Plain ∷ [])
    ∷ (Term ∷ Term ∷ Plain ∷ [])
    ∷ (Term ∷ Body ∷ Plain ∷ [])
    ∷ (Term ∷ Body ∷ Plain ∷ [])
    ∷ (Term ∷ Term ∷ Body ∷ [])
    ∷ (Term ∷ Plain ∷ Plain ∷ [])
    ∷ (Plain ∷ Plain ∷ Plain ∷ [])
    ∷ []

abbrev Right : Tag → List Tag → ℕ → ℕ → Type 0
Right x ys k j = tag_of (slice_index_or (slice_index_or marks k ys) j x) ≡ tag_at k j

mark_at : (x : Tag) (ys : List Tag) (k j : ℕ) → k ≤ 8 → j < 3 → Right x ys k j
unfolding marks tags_at table
mark_at x ys k j h small =
    each_kind (λ (i : ℕ). Right x ys i j)
    (each_field (Right x ys 0) refl refl refl j small)
    (each_field (Right x ys 1) refl refl refl j small)
    (each_field (Right x ys 2) refl refl refl j small)
    (each_field (Right x ys 3) refl refl refl j small)
    (each_field (Right x ys 4) refl refl refl j small)
    (each_field (Right x ys 5) refl refl refl j small)
    (each_field (Right x ys 6) refl refl refl j small)
    (each_field (Right x ys 7) refl refl refl j small)
    (each_field (Right x ys 8) refl refl refl j small)
    k h

pub returns : goal.returns
unfolding marks
returns c = mark_at _ _ c.args.kind c.args.j c.requires.0 c.requires.1
