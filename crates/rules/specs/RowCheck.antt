-- The row check, every clause, and scope.
use Rattle.std.specs.Prelude.{ℕ, ◌≤◌, ◌<◌, ◌≡◌, length}
use Rattle.rules.specs.Maxima.{most_index, most_level, most_levels, most_number, most_bound, most_height}
use Rattle.rules.specs.Kinds.{Kind, sort, const, app, lam, pi, let', proj, num, Tag, plain, term, body, fields}
use Rattle.rules.specs.Rows.{Ptr, blank, Row, var, node, Cell, Store, cell_at, row_at, bound, cell}

-- the plain words are in range, and "a declaration number names a declaration": there are D
pub data InRange (D : ℕ) : Kind → Type 0 where
  sort_in : {l : ℕ} → l ≤ most_level → InRange D (sort l)
  const_in : {d n : ℕ} → d < D → n ≤ most_levels → InRange D (const d n)
  app_in : InRange D app
  lam_in : InRange D lam
  pi_in : InRange D pi
  let_in : InRange D let'
  proj_in : {d i : ℕ} → d < D → InRange D (proj d i)
  num_in : {n : ℕ} → n ≤ most_number → InRange D (num n)

-- "A child's row number is lower than its parent's"; a closed child's shift is 0
pub record ChildOk (s : Store) (n : ℕ) (p : Ptr) : Type 0 where
  pub lower : p.row < n
  pub still : (cell_at s p.row).bound ≡ 0 → p.shift ≡ 0

-- by the table; "Unused words are 0"
pub data FieldOk (s : Store) (n : ℕ) (p : Ptr) : Tag → Type 0 where
  plain_ok : p ≡ blank → FieldOk s n p plain
  term_ok : ChildOk s n p → FieldOk s n p term
  body_ok : ChildOk s n p → FieldOk s n p body

pub data RowOk (D : ℕ) (s : Store) (n : ℕ) : Row → Type 0 where
  var_ok : {i : ℕ} → i ≤ most_index → RowOk D s n (var i)
  node_ok : {κ : Kind} {x y z : Ptr} → InRange D κ →
      FieldOk s n x (fields κ).first → FieldOk s n y (fields κ).second → FieldOk s n z (fields κ).third →
      RowOk D s n (node κ x y z)

-- "A row's bound is at most 4,096, its height at most 2,000."
pub record Fits (x : Cell) : Type 0 where
  pub bound : x.bound ≤ most_bound
  pub height : x.height ≤ most_height

-- row n of the store passes; its bound and height are exactly those that its children give
pub record Passes (D : ℕ) (s : Store) (n : ℕ) : Type 0 where
  pub fields : RowOk D s n (row_at s n)
  pub exact : cell_at s n ≡ cell s (row_at s n)
  pub fits : Fits (cell_at s n)

pub record AllPass (D : ℕ) (s : Store) : Type 0 where
  pub each : (n : ℕ) → n < length s → Passes D s n

-- "A term is in scope if its bound is at most the depth." It stands in the store, and a closed pointer's shift is 0.
pub record InScope (s : Store) (depth : ℕ) (p : Ptr) : Type 0 where
  pub there : p.row < length s
  pub still : (cell_at s p.row).bound ≡ 0 → p.shift ≡ 0
  pub within : bound s p ≤ depth
