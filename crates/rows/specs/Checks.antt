-- The table's numbers, the words that a kind uses, and what the row check says. Assumes nothing: these are definitions.
use Rattle.std.specs.Prelude.{ℕ, ◌+◌, ◌*◌, ◌≤◌, ◌<◌, ◌≡◌, Bool, true, false, List, [], ◌∷◌, ◌++◌, get_or, take, Result, Ok, Err, ⊤}
use Rattle.rules.specs.Maxima.{most_index, most_bound, most_height}
use Rattle.rules.specs.Kinds.{Kind, Tag}
use Rattle.rules.specs.Rows.{Ptr, Row, var, node, Cell, Store, cell, field_bound, field_height}
use Rattle.rules.specs.RowCheck.{InRange, Fits, Passes}
use Rattle.rules.specs.Accepted.{IsRow, Keep, Lowest}
use Rattle.rows.specs.declared.Shape.{Shape}
use Rattle.rows.specs.declared.kinds.Sizes.{Sizes}
use Rattle.rows.specs.declared.refusals.Refused.{Refused}
use Rattle.rows.specs.declared.refusals.Refusal.TheVariants as refusal
use Rattle.rows.specs.Refusals.{refused_at}
use Rattle.rows.specs.Words.{decode, store_of, whole, words_at}

-- how many of a row's six words between kind and bound a kind uses, from the first on
unfoldable pub used : ℕ → ℕ
used k = get_or (1 ∷ 1 ∷ 2 ∷ 4 ∷ 4 ∷ 4 ∷ 6 ∷ 4 ∷ 2 ∷ []) k 0

-- "Unused words are 0"; the first word is always used
pub record Tidy (w : Shape) : Type 0 where
  pub word2 : used w.kind < 2 → w.first.shift ≡ 0
  pub word3 : used w.kind < 3 → w.second.row ≡ 0
  pub word4 : used w.kind < 4 → w.second.shift ≡ 0
  pub word5 : used w.kind < 5 → w.third.row ≡ 0
  pub word6 : used w.kind < 6 → w.third.shift ≡ 0

-- nine words that are a row: a kind up to 8, and unused words 0
pub record Formed (w : Shape) : Type 0 where
  pub kind : w.kind ≤ 8
  pub tidy : Tidy w

-- the plain words of a row are in range
pub data Ranged (D : ℕ) : Row → Type 0 where
  var_ranged : {i : ℕ} → i ≤ most_index → Ranged D (var i)
  node_ranged : {κ : Kind} {x y z : Ptr} → InRange D κ → Ranged D (node κ x y z)

-- the bound and height that a row's children give
abbrev pub sizes_of : Cell → Sizes
sizes_of x = record { bound = x.bound; height = x.height }

-- what a field adds to its row's bound and height; the height is a word
pub record FieldAdds (s : Store) (t : Tag) (p : Ptr) (z : Sizes) : Type 0 where
  pub bound : z.bound ≡ field_bound s t p
  pub height : z.height ≡ field_height s t p
  pub word : z.height < 4294967296

-- "A row's bound is at most 4,096, its height at most 2,000."
pub record Within (z : Sizes) : Type 0 where
  pub bound : z.bound ≤ most_bound
  pub height : z.height ≤ most_height

-- recorded bound and height are exact and within the maxima
pub record Sized (s : Store) (x : Cell) : Type 0 where
  pub exact : x ≡ cell s x.row
  pub fits : Fits x

-- a test's answer says whether P holds
pub record Says (P : Type 0) (b : Bool) : Type 0 where
  pub yes : b ≡ true → P
  pub no : b ≡ false → P → ⊥

-- row n, read where it stands, is a row and passes
pub record Right (D : ℕ) (l sc : List ℕ) (n : ℕ) : Type 0 where
  pub is_row : IsRow (words_at l sc n) (decode (words_at l sc n))
  pub passes : Passes D (whole l sc) n

-- the row check's answer: all rows pass, or refusal 2 at the lowest that does not
pub data CheckSays (D : ℕ) (l sc : List ℕ) (m nlib : ℕ) : Result ⊤ Refused → Type 0 where
  all_pass : Keep 9 (l ++ take (9 * m) sc) IsRow (Passes D) (nlib + m) (store_of l sc m) → CheckSays D l sc m nlib (Ok tt)
  broken : {j : ℕ} → Lowest 9 (l ++ take (9 * m) sc) IsRow (Passes D) (nlib + m) j → CheckSays D l sc m nlib (Err (refused_at refusal.Row j))
