-- What replacement is given and what it promises: the course's own answer, with every fuel that the recorded height allows.
-- Assumes nothing: these are definitions.
use Rattle.std.specs.Prelude.{ℕ, suc, ◌+◌, ◌/◌, ◌≤◌, ◌<◌, ◌≡◌, List, length, Option, None, Some, Ok}
use Rattle.std.proofs.Math.Option as maybe
use Rattle.std.proofs.Math.Option.{none, some}
use Rattle.rules.specs.Kinds.{plain}
use Rattle.rules.specs.Rows as rules
use Rattle.rules.specs.Rows.{cell_at, row_at, field_height}
use Rattle.rules.specs.RowCheck.{FieldOk, AllPass}
use Rattle.rules.specs.Accepted.{IsRow}
use Rattle.course.specs.Views.{cmp}
use Rattle.course.specs.Charged.{index_in, field_in, row_in, replace_in}
use Rattle.substitution.specs.Stores.{Good}
use Rattle.substitution.specs.Existence.{ValueGood}
use Rattle.rows.specs.declared.Ptr.{Ptr}
use Rattle.rows.specs.declared.kinds.Tag.{Tag}
use Rattle.rows.specs.Refusals.{Out}
use Rattle.rows.specs.Kinds.{tag_of}
use Rattle.rows.specs.Words.{ptr_of, shown, decode, store_of, words_at, Held}
use Rattle.rows.specs.Writes.{Wrote}
use Rattle.replace.specs.declared.Sub.{Sub}

-- THE CODE'S ARGUMENTS AS THE RULES'

-- one value or none; the rules have an Option of their own
abbrev pub value_by : Option Ptr → maybe.Option rules.Ptr
value_by None = none
value_by (Some v) = some (ptr_of v)

abbrev pub value_of : Sub → maybe.Option rules.Ptr
value_of x = value_by x.value

-- the value's shift, and 0 where there is none
abbrev pub shift_of : Option Ptr → ℕ
shift_of None = 0
shift_of (Some v) = v.shift

-- rows in all that may stand
abbrev pub most_rows : ℕ → List ℕ → ℕ
most_rows nlib sc = nlib + length sc / 9

abbrev pub height_of : List ℕ → List ℕ → ℕ → ℕ → ℕ
height_of l sc m r = (cell_at (store_of l sc m) r).height

-- WHAT IS GIVEN

-- every used row is nine words as the rules have them, and passes the row check
pub record Sound (l sc : List ℕ) (nlib m : ℕ) : Type 0 where
  pub held : Held l sc m nlib
  pub words : (n : ℕ) → n < nlib + m → IsRow (words_at l sc n) (decode (words_at l sc n))
  pub declarations : ℕ
  pub pass : AllPass declarations (store_of l sc m)

-- and there is one good value or none; no sum wraps
pub record Ready (l sc : List ℕ) (nlib m : ℕ) (x : Sub) : Type 0 where
  pub sound : Sound l sc nlib m
  pub value : ValueGood (store_of l sc m) (value_of x)
  pub value_shift : shift_of x.value ≤ 65536
  pub move : x.by ≤ 65536

pub record IndexReady (l sc : List ℕ) (nlib m row i c : ℕ) (x : Sub) : Type 0 where
  pub ready : Ready l sc nlib m x
  pub there : row < nlib + m
  pub index : i ≤ 65536
  pub cutoff : c ≤ 65536

-- a field of a row below the mark, by the table; a plain word is no pointer
pub record FieldReady (l sc : List ℕ) (nlib m : ℕ) (tag : Tag) (p : Ptr) (c : ℕ) (x : Sub) : Type 0 where
  pub ready : Ready l sc nlib m x
  pub field : FieldOk (store_of l sc m) (length (store_of l sc m)) (shown (tag_of tag) (ptr_of p)) (tag_of tag)
  pub near : suc (c + field_height (store_of l sc m) (tag_of tag) (ptr_of p)) ≤ 65536
  pub shift : (tag_of tag ≡ plain → ⊥) → p.shift ≤ 65536

pub record RowReady (l sc : List ℕ) (nlib m row c : ℕ) (x : Sub) : Type 0 where
  pub ready : Ready l sc nlib m x
  pub there : row < nlib + m
  pub near : c + height_of l sc m row ≤ 65536

pub record PtrReady (l sc : List ℕ) (nlib m : ℕ) (p : Ptr) (c : ℕ) (x : Sub) : Type 0 where
  pub ready : Ready l sc nlib m x
  pub good : Good (store_of l sc m) (ptr_of p)
  pub near : c + height_of l sc m p.row ≤ 65536
  pub shift : p.shift ≤ 65536

-- WHAT IS PROMISED

-- the pointer of an answer stands below the new mark, and its shift is at most `most`
pub record Near (nlib most : ℕ) (r : Out) : Type 0 where
  pub below : (q : Ptr) (m' : ℕ) → r ≡ Ok (q, m') → q.row < nlib + m'
  pub shift : (q : Ptr) (m' : ℕ) → r ≡ Ok (q, m') → q.shift ≤ most

pub record IndexDone (l sc : List ℕ) (nlib m row i c : ℕ) (x : Sub) (r : Out) (sc' : List ℕ) : Type 0 where
  pub wrote : Wrote l sc m r sc' (index_in (most_rows nlib sc) (value_of x) x.by (value_of x) c (store_of l sc m) row i (cmp c i) (cmp i c))
  pub near : Near nlib (shift_of x.value + c) r

pub record FieldDone (l sc : List ℕ) (nlib m : ℕ) (tag : Tag) (p : Ptr) (c : ℕ) (x : Sub) (r : Out) (sc' : List ℕ) : Type 0 where
  pub wrote : (f : ℕ) → field_height (store_of l sc m) (tag_of tag) (ptr_of p) ≤ f →
      Wrote l sc m r sc' (field_in (most_rows nlib sc) (value_of x) x.by (replace_in (most_rows nlib sc) (value_of x) x.by f)
      (tag_of tag) c (store_of l sc m) (ptr_of p))

pub record RowDone (l sc : List ℕ) (nlib m row c : ℕ) (x : Sub) (r : Out) (sc' : List ℕ) : Type 0 where
  pub wrote : (f : ℕ) → height_of l sc m row ≤ suc f →
      Wrote l sc m r sc' (row_in (most_rows nlib sc) (value_of x) x.by (replace_in (most_rows nlib sc) (value_of x) x.by f)
      c (store_of l sc m) row (row_at (store_of l sc m) row))
  pub near : Near nlib (shift_of x.value + c) r

pub record Replaced (l sc : List ℕ) (nlib m : ℕ) (p : Ptr) (c : ℕ) (x : Sub) (r : Out) (sc' : List ℕ) : Type 0 where
  pub wrote : (f : ℕ) → height_of l sc m p.row ≤ f →
      Wrote l sc m r sc' (replace_in (most_rows nlib sc) (value_of x) x.by f c (store_of l sc m) (ptr_of p))
  pub near : Near nlib (shift_of x.value + c + p.shift + x.by) r
