-- What the readers of a reduced term are given and what they answer, against the rules' own tests.
-- Assumes nothing: these are definitions.
use Rattle.std.specs.Prelude.{ℕ, ◌/◌, ◌≤◌, ◌≡◌, List, length, Option as Maybe, Some, None}
use Rattle.std.proofs.Math.Option.{Option, none, some}
use Rattle.rules.specs.Maxima.{most_bound}
use Rattle.rules.specs.Rows as rules
use Rattle.rules.specs.Rows.{Row, Store, row_at}
use Rattle.rules.specs.RowCheck.{AllPass, InScope}
use Rattle.rules.specs.Accepted.{part}
use Rattle.rules.specs.HeadTests.{as_constant, field_at, quot_made}
use Rattle.ways.specs.Spines.{head_of, args_of}
use Rattle.rows.specs.declared.Ptr.{Ptr}
use Rattle.rows.specs.Words.{ptr_of, store_of, Held}
use Rattle.tables.specs.Env.{env_of}
use Rattle.tables.specs.declared.Decl.{Decl}
use Rattle.tables.specs.Read.{decl_read, found}

-- WHAT IS GIVEN

-- q is in scope at a depth that a bound can have, in rows that pass and name only these declarations
pub record Reduced (l ds sc : List ℕ) (q : Ptr) : Type 0 where
  pub nlib : ℕ
  pub mark : ℕ
  pub depth : ℕ
  pub held : Held l sc mark nlib
  pub pass : AllPass (length ds / 16) (store_of l sc mark)
  pub scope : InScope (store_of l sc mark) depth (ptr_of q)
  pub small : depth ≤ most_bound

-- WHAT IS ANSWERED

-- the row of a term's head
abbrev pub head_row : Store → rules.Ptr → Row
head_row s q = row_at s (head_of s q).row

-- a constant that the rules see, as the code hands it over: its declaration's words and a count of arguments
abbrev pub constant_read : List ℕ → Option ℕ → ℕ → Maybe (Decl × ℕ)
constant_read ds none n = None
constant_read ds (some c) n = Some (decl_read (part 16 ds c), n)

abbrev pub found_field : Maybe Ptr → Option rules.Ptr
found_field = found ptr_of

-- a mark up to which rows pass, with q in scope there
pub record Marked (l ds sc : List ℕ) (q : Ptr) : Type 0 where
  pub nlib : ℕ
  pub mark : ℕ
  pub depth : ℕ
  pub held : Held l sc mark nlib
  pub pass : AllPass (length ds / 16) (store_of l sc mark)
  pub scope : InScope (store_of l sc mark) depth (ptr_of q)

-- whichever mark the rows are used up to
pub record ConstantAt (l ds sc : List ℕ) (q : Ptr) (r : Maybe (Decl × ℕ)) : Type 0 where
  pub is : (k : Marked l ds sc q) →
      constant_read ds (as_constant (head_row (store_of l sc k.mark) (ptr_of q))) (length (args_of (store_of l sc k.mark) (ptr_of q))) ≡ r

-- whichever mark that is, and whatever the rules and the context are
pub record FieldAt (l ds sc : List ℕ) (q : Ptr) (index : ℕ) (r : Maybe Ptr) : Type 0 where
  pub is : (rs cs : List ℕ) (depth nlib m d : ℕ) → Held l sc m nlib → AllPass (length ds / 16) (store_of l sc m) → InScope (store_of l sc m) d (ptr_of q) →
      found_field r ≡ field_at (env_of ds rs cs depth) (head_row (store_of l sc m) (ptr_of q)) (args_of (store_of l sc m) (ptr_of q)) index

pub record QuotMade (l ds sc : List ℕ) (q : Ptr) (r : Maybe Ptr) : Type 0 where
  pub is : (rs cs : List ℕ) (depth nlib m d : ℕ) → Held l sc m nlib → AllPass (length ds / 16) (store_of l sc m) → InScope (store_of l sc m) d (ptr_of q) →
      found_field r ≡ quot_made (env_of ds rs cs depth) (head_row (store_of l sc m) (ptr_of q)) (args_of (store_of l sc m) (ptr_of q))
