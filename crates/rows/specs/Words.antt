-- The seam between words and the rules: what nine words mean as a row, which store two lent slices stand for, and what every
-- function over them is given. Assumes nothing: these are definitions.
use Rattle.std.specs.Prelude.{ℕ, zero, suc, ◌+◌, ◌*◌, ◌-◌, ◌/◌, ◌%◌, ◌≤◌, ◌<◌, ◌≡◌, Bool, true, false}
use Rattle.std.specs.Prelude.{List, [], ◌∷◌, ◌++◌, ltb, length, get_or, take, drop}
use Rattle.rules.specs.Maxima.{most_rows}
use Rattle.rules.specs.Arithmetic.{words_value}
use Rattle.rules.specs.Kinds.{Kind, sort, const, app, lam, pi, let', proj, num, Tag, plain, term, body, Tags, tags, table}
use Rattle.rules.specs.Rows as rules
use Rattle.rules.specs.Rows.{Row, var, node, Cell, Store, ptr, blank}
use Rattle.rules.specs.Accepted.{recorded, part}
use Rattle.rows.specs.declared.Ptr.{Ptr}
use Rattle.rows.specs.declared.Shape.{Shape}

abbrev pub ite : {A : Type 0} → Bool → A → A → A
ite true a b = a
ite false a b = b

-- the code's pointer as the rules'
abbrev pub ptr_of : Ptr → rules.Ptr
ptr_of p = ptr p.row p.shift

-- NINE WORDS AS A ROW

-- a kind with the plain words that it has
unfoldable pub kind_of : ℕ → rules.Ptr → rules.Ptr → Kind
kind_of k a b =
    get_or
    (sort 0
    ∷ sort a.row
    ∷ const a.row a.shift
    ∷ app
    ∷ lam
    ∷ pi
    ∷ let'
    ∷ proj b.row b.shift
    ∷ num (words_value a.row a.shift)
    ∷ [])
    k (sort 0)

-- the rules' table, by number
unfoldable pub tags_at : ℕ → Tags
unfolding table
tags_at k = get_or table k (tags plain plain plain)

abbrev pub field : Tags → ℕ → Tag
field t zero = t.first
field t (suc zero) = t.second
field t (suc (suc j)) = t.third

abbrev pub tag_at : ℕ → ℕ → Tag
tag_at k j = field (tags_at k) j

-- a field's pair is a pointer where the table says term or body; plain words stand in the kind
abbrev pub shown : Tag → rules.Ptr → rules.Ptr
shown plain p = blank
shown term p = p
shown body p = p

-- a kind and three pairs as a row of the rules; a kind over 8 is no kind, and sort 0 stands for it
unfoldable pub row_by : ℕ → rules.Ptr → rules.Ptr → rules.Ptr → Row
unfolding kind_of tags_at
row_by zero a b c = var a.row
row_by (suc k) a b c =
    node (kind_of (suc k) a b) (shown (tag_at (suc k) 0) a) (shown (tag_at (suc k) 1) b) (shown (tag_at (suc k) 2) c)

-- a kind and three pairs, as the code has them
abbrev pub row_of : Shape → Row
row_of w = row_by w.kind (ptr_of w.first) (ptr_of w.second) (ptr_of w.third)

abbrev pub pair : ℕ → ℕ → Ptr
pair row shift = record { row = row; shift = shift }

-- a row whose plain words are all in the first pair
abbrev pub leaf_shape : ℕ → Ptr → Shape
leaf_shape k p =
    record { kind = k; first = p; second = record { row = 0; shift = 0 }; third = record { row = 0; shift = 0 } }

-- "A row is nine u32 words: kind, three pairs, bound, height."
abbrev pub pair_at : List ℕ → ℕ → Ptr
pair_at ws j = record { row = get_or ws (2 * j + 1) 0; shift = get_or ws (2 * j + 2) 0 }

abbrev pub shape_at : List ℕ → Shape
shape_at ws = record { kind = get_or ws 0 0; first = pair_at ws 0; second = pair_at ws 1; third = pair_at ws 2 }

unfoldable pub decode : List ℕ → Cell
decode ws = recorded (row_of (shape_at ws)) (get_or ws 7 0) (get_or ws 8 0)

-- the other way: a kind, three pairs, bound and height as nine words
abbrev pub words_of : Shape → ℕ → ℕ → List ℕ
words_of w b h =
    w.kind
    ∷ w.first.row
    ∷ w.first.shift
    ∷ w.second.row
    ∷ w.second.shift
    ∷ w.third.row
    ∷ w.third.shift
    ∷ b
    ∷ h
    ∷ []

-- THE STORE OF TWO SLICES

unfoldable pub rows_of : ℕ → List ℕ → Store
rows_of zero ws = []
rows_of (suc n) ws = decode (take 9 ws) ∷ rows_of n (drop 9 ws)

-- library rows, then the first m scratch rows
unfoldable pub store_of : List ℕ → List ℕ → ℕ → Store
unfolding rows_of
store_of l sc m = rows_of (length l / 9) l ++ rows_of m sc

-- all rows that stand in the two slices, those from the mark on too: what a lookup can read. A store of used rows is a prefix of it.
abbrev pub whole : List ℕ → List ℕ → Store
whole l sc = store_of l sc (length sc / 9)

-- the nine words of row n, where it stands
unfoldable pub words_at : List ℕ → List ℕ → ℕ → List ℕ
words_at l sc n = ite (ltb (9 * n) (length l)) (part 9 l n) (take 9 (drop (9 * n - length l) sc))

-- WHAT IS GIVEN

-- both slices are whole rows, and row n stands in one of them
pub record Stands (l sc : List ℕ) (n : ℕ) : Type 0 where
  pub whole_library : length l % 9 ≡ 0
  pub whole_scratch : length sc % 9 ≡ 0
  pub there : 9 * n < length l + length sc

-- the children of a kind and three pairs stand, so that their bounds and heights can be read
pub record Children (l sc : List ℕ) (w : Shape) : Type 0 where
  pub kind : w.kind ≤ 8
  pub first : (tag_at w.kind 0 ≡ plain → ⊥) → Stands l sc w.first.row
  pub second : (tag_at w.kind 1 ≡ plain → ⊥) → Stands l sc w.second.row
  pub third : (tag_at w.kind 2 ≡ plain → ⊥) → Stands l sc w.third.row

-- the library has nlib rows and the scratch m used ones, both within the maxima
pub record Held (l sc : List ℕ) (m nlib : ℕ) : Type 0 where
  pub whole_library : length l ≡ 9 * nlib
  pub few : nlib ≤ most_rows
  pub whole_scratch : length sc % 9 ≡ 0
  pub fewer : length sc ≤ 9 * most_rows
  pub room : 9 * m ≤ length sc
