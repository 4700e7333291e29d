-- Rows and pointers: a pointer's bound, shifting, a row's bound and height, the store and writing to it.
use Rattle.std.specs.Prelude.{ℕ, zero, suc, ◌+◌, pred, max, List, [], ◌∷◌, ◌++◌, length, get_or}
use Rattle.rules.specs.Kinds.{Kind, sort, Tag, plain, term, body, fields}

-- "A pointer is a row number and a shift."
pub record Ptr : Type 0 where
  pub row : ℕ
  pub shift : ℕ

abbrev pub ptr : ℕ → ℕ → Ptr
ptr r s = record { row = r; shift = s }

-- a field that is not used
abbrev pub blank : Ptr
blank = ptr 0 0

-- what a row says: a variable's index, or a kind and three fields
pub data Row : Type 0 where
  var : (index : ℕ) → Row
  node : Kind → (first second third : Ptr) → Row

-- a row without term children
abbrev pub leaf : Kind → Row
leaf κ = node κ blank blank blank

-- a row with its recorded bound and height
pub record Cell : Type 0 where
  pub row : Row
  pub bound : ℕ
  pub height : ℕ

-- library rows, then the used scratch rows, by number; writing a row is putting it at the end
abbrev pub Store : Type 0
Store = List Cell

-- past the end, which no accepted pointer reaches, stands sort 0
unfoldable pub cell_at : Store → ℕ → Cell
cell_at s r = get_or s r (record { row = leaf (sort 0); bound = 0; height = 1 })

abbrev pub row_at : Store → ℕ → Row
row_at s r = (cell_at s r).row

-- "A pointer's bound is 0 if its row's bound is 0 .., else row bound plus shift."
abbrev pub bound_on : ℕ → ℕ → ℕ
bound_on zero k = 0
bound_on (suc b) k = suc b + k

abbrev pub bound : Store → Ptr → ℕ
bound s p = bound_on (cell_at s p.row).bound p.shift

-- a pointer shifted up by k; "shifting leaves it as it is" where it is closed
abbrev pub up_on : ℕ → Ptr → ℕ → Ptr
up_on zero p k = p
up_on (suc b) p k = ptr p.row (p.shift + k)

abbrev pub up : Store → Ptr → ℕ → Ptr
up s p k = up_on (cell_at s p.row).bound p k

-- what a field adds to its row's bound and height: "a body's counted one less (not below 0)"
unfoldable pub field_bound : Store → Tag → Ptr → ℕ
field_bound s plain p = 0
field_bound s term p = bound s p
field_bound s body p = pred (bound s p)

unfoldable pub field_height : Store → Tag → Ptr → ℕ
field_height s plain p = 0
field_height s term p = (cell_at s p.row).height
field_height s body p = (cell_at s p.row).height

-- "Row bound: index + 1 for a variable, else the largest child bound .. Height: 1 without term children, else 1 + the largest child height."
unfoldable pub cell : Store → Row → Cell
cell s (var i) = record { row = var i; bound = suc i; height = 1 }
cell s (node κ x y z) = record {
  row = node κ x y z;
  bound = max (max (field_bound s (fields κ).first x) (field_bound s (fields κ).second y)) (field_bound s (fields κ).third z);
  height = suc (max (max (field_height s (fields κ).first x) (field_height s (fields κ).second y)) (field_height s (fields κ).third z));
}

-- rows written in turn
unfoldable pub grow : Store → List Row → Store
grow s [] = s
grow s (w ∷ ws) = grow (s ++ (cell s w ∷ [])) ws

-- a store, perhaps grown, and a pointer into it
pub record Got : Type 0 where
  pub store : Store
  pub at : Ptr

abbrev pub got : Store → Ptr → Got
got s p = record { store = s; at = p }

-- one row written, and the pointer to it
abbrev pub put : Store → Row → Got
put s w = got (s ++ (cell s w ∷ [])) (ptr (length s) 0)
